pub mod ExitCode
pub mod Inject
pub mod IoInfo
