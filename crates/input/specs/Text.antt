-- Text cut at a character, and the end of what has come of it.
use Rattle.std.specs.Prelude.{◌≡◌, List, [], ◌∷◌, ℕ, ◌+◌, ◌<◌, ◌≤◌, ltb, eqb, length, take, get_or, Option, Some, None, IfSome}
use Rattle.laws.specs.Pick.{pick}
use Rattle.laws.specs.Put.{put}
use Rattle.laws.specs.Tests.{stretch}

-- the bytes before the first c, all where there is none
abbrev pub up_to : ℕ → List ℕ → List ℕ
up_to c l = stretch (λ x. eqb x c) l

-- the first place of a character
abbrev pub found_at : ℕ → List ℕ → Option ℕ
found_at c l = let n = length (up_to c l) in pick (ltb n (length l)) (Some n) None

-- where the text ends after n bytes came behind the `at` that were there: where none came, one more than `at` for the
-- newline that ends the unfinished line, and nowhere where there is no such line
abbrev pub end_after : (at n : ℕ) → Option ℕ
end_after at n = pick (ltb 0 n) (Some (at + n)) (pick (eqb at 0) None (Some (at + 1)))

-- and the buffer then: only that newline is written
abbrev pub left_after : (at n : ℕ) → List ℕ → List ℕ
left_after at n buf = pick (ltb 0 n) buf (pick (eqb at 0) buf (put buf at (0x0A ∷ [])))

-- what a read behind the `at` bytes that were there leaves: as many bytes as came, none of those before them changed, and the newline
-- where none came and a line is unfinished
pub record More (at : ℕ) (old new : List ℕ) (r : Option ℕ) : Type 0 where
  pub came : ℕ
  pub fits : at + came ≤ length old
  pub inside : IfSome r (λ (end : ℕ). end ≤ length old)
  pub end_is : r ≡ end_after at came
  pub front_stays : take at new ≡ take at old
  pub length_stays : length new ≡ length old
  pub line_ended : came ≡ 0 → 0 < at → get_or new at 0 ≡ 0x0A
