-- What a header's bytes tell of it.
use Rattle.std.proofs.Common.{◌≡◌, ℕ, List, sym, ◌+◌, ◌≤◌, ◌<◌, ◌^◌, arith}
use Rattle.std.proofs.lemmas.Nat.{from_le_bytes-to_le_bytes_2, from_le_bytes-to_le_bytes_4}
use mathlib.Core.HLevel.{is_prop→PathP}
use native.Mathlib.Bridge.{le_prop}
use Rattle.layout.specs.declared.geometry.Geometry.{Geometry}
use Rattle.layout.specs.declared.header.Header.{Header}
use Rattle.layout.specs.Numbers.{two_at, four_at}
use Rattle.layout.specs.Headers.{header_bytes}

-- the log's length stands in bytes 2 and 3
pub log-header_bytes : (h : Header) → two_at (header_bytes h) 2 ≡ h.geometry.log
unfolding two_at header_bytes
log-header_bytes h = from_le_bytes-to_le_bytes_2 h.geometry.log (omega arith)

-- the epoch in bytes 4 to 7
pub epoch-header_bytes : (h : Header) → four_at (header_bytes h) 4 ≡ h.epoch
unfolding four_at header_bytes
epoch-header_bytes h = from_le_bytes-to_le_bytes_4 h.epoch h.epoch_bits

-- the count of sectors in bytes 8 to 11
pub sectors-header_bytes : (h : Header) → four_at (header_bytes h) 8 ≡ h.geometry.sectors
unfolding four_at header_bytes
sectors-header_bytes h = from_le_bytes-to_le_bytes_4 h.geometry.sectors (omega arith)

-- the count of transactions in bytes 12 to 15
pub transactions-header_bytes : (h : Header) → four_at (header_bytes h) 12 ≡ h.transactions
unfolding four_at header_bytes
transactions-header_bytes h = from_le_bytes-to_le_bytes_4 h.transactions h.transactions_bits

-- the four above
pub ruleset header_numbers = (log-header_bytes, epoch-header_bytes, sectors-header_bytes, transactions-header_bytes)

-- geometries with the same numbers are the same
pub same_geometry : (g g' : Geometry) → g.sectors ≡ g'.sectors → g.log ≡ g'.log → g ≡ g'
same_geometry g g' s l = λ i. record {
  sectors = s i;
  log = l i;
  least_log = is_prop→PathP (λ j. 9 ≤ l j) (λ j. le_prop) g.least_log g'.least_log i;
  most_log = is_prop→PathP (λ j. l j ≤ 64) (λ j. le_prop) g.most_log g'.most_log i;
  room = is_prop→PathP (λ j. l j + 4 ≤ s j) (λ j. le_prop) g.room g'.room i;
  most = is_prop→PathP (λ j. s j ≤ 1024) (λ j. le_prop) g.most g'.most i;
}

-- and so are headers with the same numbers
pub same_header : (h h' : Header) → h.geometry ≡ h'.geometry → h.epoch ≡ h'.epoch → h.transactions ≡ h'.transactions → h ≡ h'
same_header h h' g e t = λ i. record {
  geometry = g i;
  epoch = e i;
  transactions = t i;
  started = is_prop→PathP (λ j. 1 ≤ e j) (λ j. le_prop) h.started h'.started i;
  epoch_bits = is_prop→PathP (λ j. e j < 2 ^ 32) (λ j. le_prop) h.epoch_bits h'.epoch_bits i;
  transactions_bits = is_prop→PathP (λ j. t j < 2 ^ 32) (λ j. le_prop) h.transactions_bits h'.transactions_bits i;
}

-- the header of bytes is the one whose numbers stand at their places
pub same_as_read : (h k : Header) (b : List ℕ) → header_bytes h ≡ b
    → k.geometry.sectors ≡ four_at b 8 → k.geometry.log ≡ two_at b 2 → k.epoch ≡ four_at b 4 → k.transactions ≡ four_at b 12 → k ≡ h
same_as_read h k b e s l a t =
    let l' = log-header_bytes h in
    let a' = epoch-header_bytes h in
    let s' = sectors-header_bytes h in
    let t' = transactions-header_bytes h in
    same_header k h (same_geometry _ _ (cc) (cc)) (cc) (cc)

-- one header's bytes are no other's
pub one_header : (h h' : Header) → header_bytes h ≡ header_bytes h' → h ≡ h'
one_header h h' e =
    same_as_read h' h (header_bytes h) (sym e)
    (sym (sectors-header_bytes h)) (sym (log-header_bytes h)) (sym (epoch-header_bytes h)) (sym (transactions-header_bytes h))
