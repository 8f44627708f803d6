-- How a check fails where a stage of an opening does, and by which refusal of calls its failure goes. Assumes nothing.
use Rattle.image.specs.declared.refusal.StageError.{StageError}
use Rattle.image.specs.declared.refusal.StageError.TheVariants.{Off as StageOff, NoHeap as StageNoHeap}
use Rattle.audit.specs.declared.error.CheckError.{CheckError}
use Rattle.audit.specs.declared.error.CheckError.TheVariants.{Off, ShortMemory, NoHeap}
use Rattle.model.specs.declared.refusal.Refusal.{Refusal}
use Rattle.model.specs.declared.refusal.Refusal.TheVariants.{Off as CallOff, ShortMemory as CallShortMemory}
use Rattle.model.specs.Refusals.{of_image}

abbrev pub as_check_error : StageError → CheckError
as_check_error StageOff = Off
as_check_error (StageNoHeap q) = NoHeap q

abbrev pub of_check : CheckError → Refusal
of_check Off = CallOff
of_check ShortMemory = CallShortMemory
of_check (NoHeap q) = of_image q
