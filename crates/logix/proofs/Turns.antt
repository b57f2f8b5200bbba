-- One reply more: what it adds to the replies, their offsets and their outcome, and the run over the parts left.
-- Assumes nothing.
use mathlib.Core.Path.{◌≡◌, refl, sym, ap, ◌∙◌}
use mathlib.Core.Bool.{Bool, true, false}
use mathlib.Core.List.{List, [], ◌∷◌, ◌++◌, append_assoc, append-nil}
use Prim.Native.Nat.{ℕ, ◌+◌, ◌*◌}
use native.Mathlib.Omega.{arith}
use lib.ListN.{length, length-append}
use lib.Seq.{append_snoc}
use Rattle.laws.specs.Pick.{both}
use Rattle.laws.specs.Tests.{every}
use Rattle.laws.proofs.Tests.{both_assoc}
use Rattle.definition.specs.Bytes.{le16}
use Rattle.definition.specs.Envelope.{Replies, and_reply, join_all, offsets_from}

pub join_one : (rs : List (List ℕ)) (r : List ℕ) → join_all (rs ++ (r ∷ [])) ≡ join_all rs ++ r
unfolding join_all
join_one [] r = append-nil r
join_one (x ∷ rs) r = ap (λ (l : List ℕ). x ++ l) (join_one rs r) ∙ sym (append_assoc x (join_all rs) r)

pub offsets_one : (at : ℕ) (rs : List (List ℕ)) (r : List ℕ) (n : ℕ) → n ≡ at + length (join_all rs)
    → offsets_from at (rs ++ (r ∷ [])) ≡ offsets_from at rs ++ le16 n
unfolding offsets_from join_all
offsets_one at [] r n e = let k : n ≡ at = omega arith in rw k
offsets_one at (x ∷ rs) r n e =
    let s = length-append x (join_all rs) in
    ap (λ (l : List ℕ). le16 at ++ l) (offsets_one (at + length x) rs r n (omega (arith, s)))

pub offsets_long : (at : ℕ) (rs : List (List ℕ)) → length (offsets_from at rs) ≡ 2 * length rs
unfolding offsets_from
offsets_long at [] = refl
offsets_long at (x ∷ rs) = let k = offsets_long (at + length x) rs in omega (arith, k)

both_end : (b : Bool) → both b true ≡ b
both_end true = refl
both_end false = refl

pub every_one : {A : Type 0} (p : A → Bool) (xs : List A) (x : A) → every p (xs ++ (x ∷ [])) ≡ both (every p xs) (p x)
unfolding every
every_one p [] x = both_end (p x)
every_one p (y ∷ xs) x = ap (both (p y)) (every_one p xs x) ∙ sym (both_assoc (p y) (every p xs) (p x))

-- replies that came before
abbrev pub before : List (List ℕ) → Replies → Replies
before rs x = record { replies = rs ++ x.replies; memory = x.memory }

pub before_one : (rs : List (List ℕ)) (r : List ℕ) (x : Replies) → before rs (and_reply r x) ≡ before (rs ++ (r ∷ [])) x
before_one rs r x = rw (append_snoc rs r x.replies)
