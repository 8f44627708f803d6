-- The size rule: the class of page in which a new object of w words is made. Which bytes are lawful does not depend on it.
-- Assumes nothing.
use Rattle.std.specs.Prelude.{◌≡◌, ℕ, ◌<◌, ◌≤◌}
use Rattle.layout.specs.declared.class.Class.{Class}
use Rattle.layout.specs.Classes.{size_of, slots_of}

-- an object has a word at least; c is one of the classes P, its slots have room for w words, and no class of P with room for them
-- has smaller ones
pub record Smallest (P : Class → Type 0) (w : ℕ) (c : Class) : Type 0 where
  pub some : 0 < w
  pub serves : P c
  pub holds : w ≤ size_of c
  pub least : (d : Class) → P d → w ≤ size_of d → size_of c ≤ size_of d

-- c serves for new objects: every class with slots does. A class that is to serve no longer is left out here.
abbrev pub TakesNew : Class → Type 0
TakesNew c = 0 < slots_of c

-- a new object of w words is made in a page of class c
abbrev pub IsClassFor : ℕ → Class → Type 0
IsClassFor w c = Smallest TakesNew w c

-- no size has two classes
abbrev pub AtMostOneClass : Type 0
AtMostOneClass = (w : ℕ) (c d : Class) → IsClassFor w c → IsClassFor w d → c ≡ d
