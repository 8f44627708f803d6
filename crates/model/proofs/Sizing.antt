-- No size has two classes.
-- Assumes nothing.
use Rattle.std.proofs.Common.{◌≡◌, refl, arith}
use Rattle.layout.specs.declared.class.Class.{Class}
use Rattle.layout.specs.declared.class.Class.TheVariants.{Free, One, Two, Three, Five, Ten, Root}
use Rattle.layout.specs.Classes.{size_of}
use Rattle.model.specs.Sizes.{TakesNew, AtMostOneClass}

-- classes with slots differ in the size of a slot
by_size : (c d : Class) → TakesNew c → TakesNew d → size_of c ≡ size_of d → c ≡ d
by_size One One l m e = refl
by_size Two Two l m e = refl
by_size Three Three l m e = refl
by_size Five Five l m e = refl
by_size Ten Ten l m e = refl
by_size Free d l m e = absurd (omega arith)
by_size Root d l m e = absurd (omega arith)
by_size c d l m e = absurd (omega arith)

pub one_class : AtMostOneClass
one_class w c d a b =
    let l = a.least d b.serves b.holds in
    let m = b.least c a.serves a.holds in
    by_size c d a.serves b.serves (omega arith)
