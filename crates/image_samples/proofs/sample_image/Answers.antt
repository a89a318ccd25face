use Rattle.std.proofs.Common.{rules, ◌≡◌, Ok, Err, IfErr, List, ℕ, Result, subst}
use Rattle.image_file.specs.Image.{Contents, IsImageRefusal, image_of}
use Rattle.image_file.specs.declared.fault.ImageError.{ImageError}
use Rattle.image_file.specs.declared.fault.ImageError.TheVariants.{Fault, OutOfMemory}
use Rattle.image_file.specs.declared.fault.ImageFault.{ImageFault}
use Rattle.image_samples.specs.Sample.{IsFaultOf, sample_of}
use Rattle.image_samples.proofs.sample_image.Goals as goal

fault_of : (image : Result Contents ImageFault) (read : Result Contents ImageError) → IfErr read (IsImageRefusal image) → IfErr read (IsFaultOf image)
fault_of image (Ok contents) refused = tt
fault_of image (Err (Fault fault)) refused = refused
fault_of image (Err OutOfMemory) refused = tt

pub returns-clause-fault : goal.returns-clause-fault
returns-clause-fault c =
    let file : c.deref.result.now ≡ sample_of c.args.code.now c.args.ud c.args.gp = search rules in
    fault_of _ c.read.result (subst (λ (bytes : List ℕ). IfErr c.read.result (IsImageRefusal (image_of bytes))) file c.read.ensures.refused)
