pub mod MsrWord
