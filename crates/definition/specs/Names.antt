-- Document 01, "Type, member, tag" (T2) and "Target": when two names are the same, and when a name is a program name.
-- 1756-PM020 defines the prefix `Program:` and that names ignore case; document 01 alone the test.
-- Document 02, P2: the three prefixes of other symbols.
use Rattle.std.specs.Prelude.{Bool, List, [], ◌∷◌, ℕ, ◌+◌, ltb, eqb, length, take, drop}
use Rattle.std.specs.Prelude.{Option, None, Some}
use Rattle.laws.specs.Pick.{pick, both}
use Rattle.laws.specs.Zip.{agree}

-- every comparison of names ignores the case of A to Z and of nothing else [01]
abbrev pub lower : ℕ → ℕ
lower b = pick (ltb b 0x41) b (pick (ltb b 0x5B) (b + 0x20) b)

-- [01]
abbrev pub same_byte : ℕ → ℕ → Bool
same_byte x y = eqb (lower x) (lower y)

-- [01]
abbrev pub same_name : List ℕ → List ℕ → Bool
same_name a b = agree same_byte a b

-- `program:` [PM020]
abbrev pub program_prefix : List ℕ
program_prefix = 0x70 ∷ 0x72 ∷ 0x6F ∷ 0x67 ∷ 0x72 ∷ 0x61 ∷ 0x6D ∷ 0x3A ∷ []

-- `program:`, case ignored, and at least one byte more [01]
unfoldable pub is_program_name : List ℕ → Bool
is_program_name name = both (ltb 8 (length name)) (same_name (take 8 name) program_prefix)

-- what follows `program:` [01]
abbrev pub after_program : List ℕ → List ℕ
after_program name = drop 8 name

-- `routine:` and `task:` [P2]
abbrev pub routine_prefix : List ℕ
routine_prefix = 0x72 ∷ 0x6F ∷ 0x75 ∷ 0x74 ∷ 0x69 ∷ 0x6E ∷ 0x65 ∷ 0x3A ∷ []

abbrev pub task_prefix : List ℕ
task_prefix = 0x74 ∷ 0x61 ∷ 0x73 ∷ 0x6B ∷ 0x3A ∷ []

-- case ignored [P2]
unfoldable pub starts_with : (prefix name : List ℕ) → Bool
starts_with prefix name = same_name (take (length prefix) name) prefix

-- what follows `program:`, `routine:` or `task:`, or none without such a prefix [P2]
unfoldable pub after_prefix : List ℕ → Option (List ℕ)
after_prefix name =
    pick (starts_with program_prefix name) (Some (drop 8 name))
    (pick (starts_with routine_prefix name) (Some (drop 8 name))
    (pick (starts_with task_prefix name) (Some (drop 5 name)) None))
