-- A request that can be sent has at most 1,292 bytes: the law of what is asked for, so that its proof stands here.
-- Assumes nothing.
use mathlib.Core.Path.{◌≡◌}
use mathlib.Core.Bool.{true}
use mathlib.Core.List.{List, [], ◌∷◌, ◌++◌}
use Prim.Native.Nat.{ℕ, ◌+◌, ◌/◌, ◌%◌, ◌≤◌}
use native.Mathlib.Omega.{arith}
use lib.Dec.{leb, eqb}
use lib.ListN.{length, length-append}
use borrow.Author.Tests.{leb-true, eqb-true}
use Rattle.laws.specs.Pick.{pick}
use Rattle.laws.proofs.Chain.{pick_all}
use Rattle.laws.proofs.Tests.{both_true}
use Rattle.definition.specs.Bytes.{le16, le32}
use Rattle.continued.specs.Point3.{read_request}
use Rattle.whole.specs.Whole.{is_sendable}
use Rattle.whole.specs.Lists.{is_askable, scope_path, list_path, list_request}

-- ---- a read

pub sendable_words : (path : List ℕ) → is_sendable path ≡ true → (length path % 2 ≡ 0) × (length path / 2 ≤ 255)
sendable_words path e =
    let b = both_true (eqb (length path % 2) 0) (leb (length path / 2) 255) e in
    (eqb-true (length path % 2) 0 b.0, leb-true (length path / 2) 255 b.1)

module _ (path : List ℕ) (elements offset : ℕ) where
  pub request_length : length (read_request path elements offset) ≡ 8 + length path
  unfolding read_request
  request_length = omega (arith, length-append path (le16 elements), length-append (path ++ le16 elements) (le32 offset))

  pub short_read : is_sendable path ≡ true → length (read_request path elements offset) ≤ 1292
  short_read e = omega (arith, request_length, sendable_words path e)

-- ---- a page

pub askable-short : (program attributes : List ℕ) → is_askable program attributes ≡ true → (length program ≤ 255) × (length attributes ≤ 1024)
askable-short program attributes e =
    let b = both_true (leb (length program) 255) (leb (length attributes) 1024) e in
    (leb-true (length program) 255 b.0, leb-true (length attributes) 1024 b.1)

module _ (program attributes : List ℕ) (id : ℕ) where
  scope-few : length (scope_path program) ≤ 3 + length program
  unfolding scope_path
  scope-few =
      let pad : List ℕ = pick (eqb (length program % 2) 0) [] (0 ∷ []) in
      let few : length pad ≤ 1 = pick_all (λ (l : List ℕ). length l ≤ 1) (eqb (length program % 2) 0) (omega arith) (omega arith) in
      pick_all (λ (l : List ℕ). length l ≤ 3 + length program) (eqb (length program) 0) (omega arith) (omega (arith, few, length-append program pad))

  pub path-length : length (list_path program id) ≡ length (scope_path program) + 8
  unfolding list_path
  path-length = length-append (scope_path program) _

  pub list_length : length (list_request program attributes id) ≡ 10 + length (scope_path program) + length attributes
  unfolding list_request
  list_length = omega (arith, length-append (list_path program id) attributes, path-length)

  pub short_list : is_askable program attributes ≡ true → length (list_request program attributes id) ≤ 1292
  short_list e = omega (arith, list_length, scope-few, askable-short program attributes e)

pub ruleset lengths = (askable-short, list_length)
