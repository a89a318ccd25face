use Rattle.image_file.proofs.MadeFile.{made_is_read}
use Rattle.image_file.proofs.made.make_image.Goals as goal

pub returns-in_err-file-clause-read : goal.returns-in_err-file-clause-read
returns-in_err-file-clause-read c = made_is_read c.args.n

pub returns-in_err-write-clause-read : goal.returns-in_err-write-clause-read
returns-in_err-write-clause-read c = made_is_read c.args.n

pub returns-in_err-write_code-clause-read : goal.returns-in_err-write_code-clause-read
returns-in_err-write_code-clause-read c = made_is_read c.args.n

pub returns-clause-read : goal.returns-clause-read
returns-clause-read c = made_is_read c.args.n
