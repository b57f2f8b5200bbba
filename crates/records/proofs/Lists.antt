-- Records and rows: a row and its record mean each other, a list of records and its rows go together element by element, and rows packed one after the other.
-- Assumes nothing.
use mathlib.Core.Path.{◌≡◌, refl, sym, ap, ◌∙◌}
use mathlib.Core.List.{List, [], ◌∷◌}
use Prim.Native.Nat.{ℕ, zero, suc, min, ◌+◌, ◌<◌}
use native.Mathlib.Omega.{arith}
use native.Mathlib.Numerals.{add-one}
use native.Mathlib.Nat.{not-suc-le-zero, le_of_suc-le-suc}
use lib.ListN.{length, get_or, set, take, length-map}
use lib.Seq.{take-suc, take-suc-set}
use Rattle.std.proofs.lemmas.List.{map-append, length-take-le}
use Rattle.definition.specs.Tables.{Row}
use Rattle.records.specs.declared.Tag.{Tag}
use Rattle.records.specs.Records.{row_of, tag_of, tag_at, rows_of}

-- ---- a row of twelve words and a record with three lengths mean each other

-- the list of n numbers f 0, f 1, ..
abbrev spelt : ℕ → (ℕ → ℕ) → List ℕ
spelt zero f = []
spelt (suc n) f = f 0 ∷ spelt n (λ i. f (suc i))

spelt_all : (xs : List ℕ) → spelt (length xs) (λ i. get_or xs i 0) ≡ xs
spelt_all [] = refl
spelt_all (x ∷ xs) = ap {B = List ℕ} (λ l. x ∷ l) (spelt_all xs)

spelt_by : (n : ℕ) (xs : List ℕ) → length xs ≡ n → spelt n (λ i. get_or xs i 0) ≡ xs
spelt_by n xs e = ap (λ (k : ℕ). spelt k (λ i. get_or xs i 0)) (sym e) ∙ spelt_all xs

pub row_of_tag : (r : Row) → length r ≡ 12 → row_of (tag_of r) ≡ r
row_of_tag r e = spelt_by 12 r e

pub tag_of_row : (t : Tag) → length t.lengths ≡ 3 → tag_of (row_of t) ≡ t
tag_of_row t e = ap {B = Tag} (λ (l : List ℕ). record {
  scope = t.scope;
  name_start = t.name_start;
  name_length = t.name_length;
  id = t.id;
  ty = t.ty;
  lengths = l;
  elements = t.elements;
  access = t.access;
  alias = t.alias;
  offset = t.offset;
}) (spelt_by 3 t.lengths e)

-- ---- a list of records and its rows

pub rows-count : (ts : List Tag) → length ts ≡ length (rows_of ts)
rows-count ts = sym (length-map ts row_of)

-- what the code reads past a list's end
abbrev pub past_end : Tag
past_end = record { scope = 0; name_start = 0; name_length = 0; id = 0; ty = 0; lengths = []; elements = 0; access = 0; alias = 0; offset = 0 }

-- what is read inside the list is there whatever stands past its end
pub tag_read : (ts : List Tag) (i : ℕ) → i < length ts → get_or ts i past_end ≡ tag_at ts i
tag_read [] i h = absurd (not-suc-le-zero h)
tag_read (t ∷ ts) zero h = refl
tag_read (t ∷ ts) (suc i) h = tag_read ts i (le_of_suc-le-suc h)

pub rows-set : (ts : List Tag) (i : ℕ) (t : Tag) → rows_of (set ts i t) ≡ set (rows_of ts) i (row_of t)
rows-set [] i t = refl
rows-set (x ∷ ts) zero t = refl
rows-set (x ∷ ts) (suc i) t = ap {B = List Row} (λ rs. row_of x ∷ rs) (rows-set ts i t)

-- ---- packed one after the other: the first i of the n rows that there is room for

module _ (ts : List Tag) (rows packed : List Row) (n i : ℕ) (is : n ≡ min (length ts) (length rows)) (long : length packed ≡ length (take n rows))
    (done : take i packed ≡ rows_of (take i ts)) where
  room : length (take n rows) ≡ n
  room = length-take-le n rows (omega (arith, is))

  -- one more
  pub packed_next : (j : ℕ) (r : Row) → i < length (take n rows) → r ≡ row_of (get_or ts i past_end) → j ≡ i + 1
      → take j (set packed i r) ≡ rows_of (take j ts)
  packed_next j r h e m =
      rw (m, add-one, take-suc-set packed i r (omega (arith, long, h)), take-suc ts i past_end (omega (arith, room, is)), map-append, done, e) refl
