-- What a closure that is given two rows says of them.
use Rattle.std.specs.Prelude.{◌≡◌, Bool}
use Rattle.std.specs.Borrow.{Bor}

-- its answers are those of the test p
abbrev pub AnswersBy : {A : Type 0} → (post : Bor A → Bor A → Bool → Type 0) → (p : A → A → Bool) → Type 0
AnswersBy {A} post p = (x y : Bor A) (r : Bool) → post x y r → r ≡ p x.now y.now
