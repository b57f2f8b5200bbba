-- A message as a request: cut short, with a path that does not decode, or with one that does.
-- Assumes nothing.
use mathlib.Core.Path.{◌≡◌, refl}
use mathlib.Core.Bool.{true, false}
use mathlib.Core.List.{List}
use Rattle.std.specs.Prelude.{Option, None, Some}
use Prim.Native.Nat.{ℕ, ◌+◌, ◌*◌, ◌<◌, ◌≤◌}
use native.Mathlib.Omega.{arith}
use lib.Dec.{ltb}
use lib.ListN.{length, get_or, drop}
use borrow.Author.Tests.{ltb-false, lt-ltb, le-ltb}
use Rattle.laws.specs.Pick.{is_some}
use Rattle.laws.proofs.Chain.{by_test, clash}
use Rattle.definition.specs.Bytes.{part}
use Rattle.definition.specs.Segment.{Segment as Defined, segments}
use Rattle.definition.specs.Request.{malformed, with_path, request_of}
use Rattle.path.specs.Nth.{count_by, segment_count}

bad_path : (l : Option (List Defined)) (service : ℕ) (body : List ℕ) → None ≡ count_by l → with_path service l body ≡ malformed
bad_path None service body e = refl
bad_path (Some l) service body e = clash (cc e)

decodes_by : (n : ℕ) (l : Option (List Defined)) → Some n ≡ count_by l → is_some l ≡ true
decodes_by n None e = clash (cc e)
decodes_by n (Some l) e = refl

module _ (m : List ℕ) where
  pub request-short : length m < 2 → request_of m ≡ malformed
  unfolding request_of
  request-short h = rw (lt-ltb (length m) (2 + 2 * get_or m 1 0) (omega arith))

  module _ (w : ℕ) (words : w ≡ get_or m 1 0) where
    pub request-cut : ((2 ≤ 2 + 2 * w) × (2 + 2 * w ≤ length m) → false ≡ true) → request_of m ≡ malformed
    unfolding request_of
    request-cut f =
        rw (← words) (by_test (ltb (length m) (2 + 2 * w)) (λ t. rw t) (λ t. clash (cc (f (omega arith, ltb-false (length m) (2 + 2 * w) t)))))

    module _ (inside : 2 + 2 * w ≤ length m) (path : List ℕ) (is : path ≡ part m 2 (2 * w)) where
      pub request-bad : None ≡ segment_count path → request_of m ≡ malformed
      unfolding request_of segment_count
      request-bad e =
          rw (← words, le-ltb (length m) (2 + 2 * w) inside, ← is) (bad_path (segments path) (get_or m 0 0) (drop (2 + 2 * w) m) e)

      pub request-is : (service : ℕ) (body : List ℕ) → service ≡ get_or m 0 0 → body ≡ drop (2 + 2 * w) m
          → request_of m ≡ with_path service (segments path) body
      unfolding request_of
      request-is service body e f = rw (← words, le-ltb (length m) (2 + 2 * w) inside, ← is, e, f)

pub path_decodes : (path : List ℕ) (n : ℕ) → Some n ≡ segment_count path → is_some (segments path) ≡ true
unfolding segment_count
path_decodes path n e = decodes_by n (segments path) e
