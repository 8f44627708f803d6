-- No two verdicts fit the same conditions.
-- Assumes nothing.
use Rattle.std.proofs.Common.{◌≡◌, List, refl, arith}
use Rattle.survey.specs.declared.condition.Condition.{Condition}
use Rattle.survey.specs.declared.condition.Verdict.{Verdict}
use Rattle.survey.specs.declared.condition.Verdict.TheVariants.{NoSectors, AllTorn, SomeTorn, AllBlank, AllReadable}
use Rattle.survey.specs.Verdicts.{IsVerdictOn}

pub one_verdict : (xs : List Condition) (v w : Verdict) → IsVerdictOn xs v → IsVerdictOn xs w → w ≡ v
one_verdict xs NoSectors NoSectors p q = refl
one_verdict xs NoSectors AllTorn p q = absurd (omega arith)
one_verdict xs NoSectors SomeTorn p q = absurd (omega arith)
one_verdict xs NoSectors AllBlank p q = absurd (omega arith)
one_verdict xs NoSectors AllReadable p q = absurd (omega arith)
one_verdict xs AllTorn NoSectors p q = absurd (omega arith)
one_verdict xs AllTorn AllTorn p q = refl
one_verdict xs AllTorn SomeTorn p q = absurd (omega arith)
one_verdict xs AllTorn AllBlank p q = absurd (omega arith)
one_verdict xs AllTorn AllReadable p q = absurd (omega arith)
one_verdict xs SomeTorn NoSectors p q = absurd (omega arith)
one_verdict xs SomeTorn AllTorn p q = absurd (omega arith)
one_verdict xs SomeTorn SomeTorn p q = refl
one_verdict xs SomeTorn AllBlank p q = absurd (omega arith)
one_verdict xs SomeTorn AllReadable p q = absurd (omega arith)
one_verdict xs AllBlank NoSectors p q = absurd (omega arith)
one_verdict xs AllBlank AllTorn p q = absurd (omega arith)
one_verdict xs AllBlank SomeTorn p q = absurd (omega arith)
one_verdict xs AllBlank AllBlank p q = refl
one_verdict xs AllBlank AllReadable p q = absurd (omega arith)
one_verdict xs AllReadable NoSectors p q = absurd (omega arith)
one_verdict xs AllReadable AllTorn p q = absurd (omega arith)
one_verdict xs AllReadable SomeTorn p q = absurd (omega arith)
one_verdict xs AllReadable AllBlank p q = absurd (omega arith)
one_verdict xs AllReadable AllReadable p q = refl
