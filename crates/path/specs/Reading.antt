-- What a reader of a path reads: the bytes where it stands, behind which it then stands; nothing where the path ends too soon, and it stays.
use Rattle.std.specs.Prelude.{◌≡◌, Bool, List, ℕ, ◌+◌, true, false, leb, length, get_or, take, drop, Option, None, Some}
use Rattle.std.specs.Borrow.{Bor}
use Rattle.laws.specs.Pick.{pick}
use Rattle.definition.specs.Bytes.{u16_at, u32_at}
use Rattle.definition.specs.Segment.{segment_at, step, cut}
use Rattle.path.specs.Paths.{segment_of, NameStands}
use Rattle.path.specs.declared.Segment.{Segment}
use Rattle.path.specs.declared.reader.Reader.{Reader}

-- n bytes stand in the path from a position on
abbrev pub holds : List ℕ → (at n : ℕ) → Bool
holds path at n = leb (at + n) (length path)

abbrev pub byte_at : List ℕ → ℕ → Option ℕ
byte_at path at = pick (holds path at 1) (Some (get_or path at 0)) None

abbrev pub word_at : List ℕ → ℕ → Option ℕ
word_at path at = pick (holds path at 2) (Some (u16_at path at)) None

abbrev pub long_at : List ℕ → ℕ → Option ℕ
long_at path at = pick (holds path at 4) (Some (u32_at path at)) None

-- behind n bytes if they stand there
abbrev pub behind : List ℕ → (at n : ℕ) → ℕ
behind path at n = pick (holds path at n) (at + n) at

-- a reader over the same path, behind n bytes
pub record Passed (old : Reader) (n : ℕ) (new : Reader) : Type 0 where
  pub path_is : new.path ≡ old.path
  pub at_is : new.at ≡ behind old.path.now old.at n

-- the n bytes where the reader stands, if they stand there
abbrev pub Takes : Reader → ℕ → Option (Bor (List ℕ)) → Type 0
Takes r n None = holds r.path.now r.at n ≡ false
Takes r n (Some part) = (holds r.path.now r.at n ≡ true) × (part.now ≡ take n (drop r.at r.path.now))

abbrev pub Stands : Reader → Option Segment → ℕ → Type 0
Stands old None at = (segment_at old.path.now old.at ≡ cut) × (at ≡ old.at)
Stands old (Some s) at = segment_at old.path.now old.at ≡ step (segment_of s) at

abbrev pub NameRead : Reader → Option Segment → Type 0
NameRead r None = Unit {0}
NameRead r (Some s) = NameStands r.path.now r.at s

-- the segment where the reader stands, behind which it then stands
pub record Reads (old : Reader) (s : Option Segment) (new : Reader) : Type 0 where
  pub path_is : new.path ≡ old.path
  pub stands : Stands old s new.at
  pub name_inside : NameRead old s
