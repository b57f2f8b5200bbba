-- A message too short for the path that it announces is malformed, and one whose path does not decode; of any other the parts are the definition's.
use mathlib.Core.Path.{◌≡◌, ◌∙◌}
use native.Mathlib.Omega.{arith}
use native.Mathlib.Nat.{add-sub_cancel_left}
use Prim.Native.Nat.{◌+◌, ◌*◌}
use lib.ListN.{length}
use Rattle.std.proofs.lemmas.List.{take_rest}
use Rattle.path.proofs.Requests.{request-short, request-cut, request-bad, request-is, path_decodes}
use Rattle.path.proofs.request_of.Goals as goal

pub returns-in_err-first : goal.returns-in_err-first
returns-in_err-first c = rw c.from_residual.ensures (request-short _ (omega (arith, c.in_err-first.ensures.item.3)))

pub returns-in_err-words : goal.returns-in_err-words
returns-in_err-words c = rw c.from_residual-in_err-words.ensures (request-short _ (omega (arith, c.in_err-words.ensures.lookup.3)))

pub returns-in_err-path : goal.returns-in_err-path
returns-in_err-path c =
    let words = c.from.ensures ∙ c.in_ok-words.ensures.lookup.3.1 0 in
    rw c.from_residual-in_err-path.ensures (request-cut _ _ words c.in_err-path.ensures.lookup.1)

pub returns-in_err-count_segments : goal.returns-in_err-count_segments
returns-in_err-count_segments c =
    let words = c.from.ensures ∙ c.in_ok-words.ensures.lookup.3.1 0 in
    let found = c.in_ok-path.ensures.lookup.0 in
    let is = rw add-sub_cancel_left at found.2 in
    rw c.from_residual-in_err-count_segments.ensures (request-bad _ _ words found.1 _ is c.in_err-count_segments.ensures)

pub returns : goal.returns
returns c =
    let words = c.from.ensures ∙ c.in_ok-words.ensures.lookup.3.1 0 in
    let found = c.in_ok-path.ensures.lookup.0 in
    let is = rw add-sub_cancel_left at found.2 in
    let size : length c.in_ok-path.path.now ≡ 2 * c.from.result = omega (arith, found.3) in
    record {
      is = request-is _ _ words found.1 _ is _ _ (c.in_ok-first.ensures.item.3.1 0) (rw size (take_rest c.args.message.now (2 + 2 * c.from.result)));
      path_is = rw (← words) is;
      decodes = path_decodes _ _ c.in_ok-count_segments.ensures;
    }

pub invariant_of-result : goal.invariant_of-result
invariant_of-result c = record { decodes = path_decodes _ _ c.in_ok-count_segments.ensures }
