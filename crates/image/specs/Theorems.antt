-- What is so of every image of a card, whatever its bytes: the page to begin with. Assumes nothing.
use Rattle.image.specs.Images.{AtMostOneHeap, AtMostOneRefusal, NotBoth, AlwaysOne}
use Rattle.image.specs.Reading.{ReadsAsMeant}

pub record OfAllImages : Type 0 where
  -- it holds one heap at most
  pub one_heap : AtMostOneHeap
  -- it gets one refusal at most
  pub one_refusal : AtMostOneRefusal
  -- with a heap it gets none
  pub not_both : NotBoth
  -- without a heap it gets one
  pub always_one : AlwaysOne
  -- its log, read sector by sector, comes to the log's meaning and to no other
  pub as_meant : ReadsAsMeant
