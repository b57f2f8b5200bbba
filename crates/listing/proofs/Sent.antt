-- Template reads: what is sent of a template, and where it lies.
-- Assumes nothing.
use Rattle.std.proofs.Common.{◌≡◌, ℕ, ◌+◌, ◌-◌, ◌<◌, ◌≤◌, min, true, leb, ltb, List, [], length, get_or, take, drop, arith, le-ltb, lt-ltb, le-leb, ne_eqb}
use Rattle.std.proofs.Common.{leb-true, leb-false}
use lib.Seq.{take-take}
use borrow.Author.Tests.{lt-leb}
use Rattle.laws.proofs.Chain.{by_test}
use Rattle.laws.proofs.Put.{length_part}
use Rattle.laws.proofs.Tests.{both_true, every_from_at}
use Rattle.definition.specs.Bytes.{u16_at, u32_at, part}
use Rattle.definition.specs.Reply.{reply, fail, success, partial, too_large, too_short, beyond_end}
use Rattle.definition.specs.Tables.{Tables, Row, structure_size, template_start, template_length}
use Rattle.definition.specs.Valid.{valid, encoded, t1, t2, t3, t4, structure_fits}
use Rattle.definition.specs.Template.{send_template, template_reply}
use Rattle.cip.specs.Writes.{Laid}
use Rattle.listing.specs.Templates.{cut_to_limit, InStore}

module _ (service limit : ℕ) (old new : List ℕ) (r : ℕ) where
  module _ (due : List ℕ) where
    pub sent-all : length due ≤ limit - 4 → Laid limit (reply service success due) old r new → Laid limit (cut_to_limit service due limit) old r new
    unfolding cut_to_limit
    sent-all h l = rw (le-leb (length due) (limit - 4) h) l

    pub sent-none : limit - 4 < length due → limit - 4 ≡ 0 → Laid limit (fail service too_large) old r new
        → Laid limit (cut_to_limit service due limit) old r new
    unfolding cut_to_limit
    sent-none h z l = rw (lt-leb (length due) (limit - 4) h, z) l

    pub sent-some : limit - 4 < length due → (limit - 4 ≡ 0 → ⊥) → Laid limit (reply service partial (take (limit - 4) due)) old r new
        → Laid limit (cut_to_limit service due limit) old r new
    unfolding cut_to_limit
    sent-some h n l = rw (lt-leb (length due) (limit - 4) h, ne_eqb (limit - 4) 0 n) l

  module _ (templates : List ℕ) (row : Row) (body : List ℕ) where
    abbrev Replied : Type 0
    Replied = Laid limit (template_reply templates row service body limit) old r new

    pub reply-short : length body < 6 → Laid limit (fail service too_short) old r new → Replied
    unfolding template_reply
    reply-short h l = rw (lt-ltb (length body) 6 h) l

    module _ (offset : ℕ) (long : 6 ≤ length body) (at : offset ≡ u32_at body 0) where
      pub reply-beyond : template_length row < offset → Laid limit (fail service beyond_end) old r new → Replied
      unfolding template_reply
      reply-beyond h l = rw (le-ltb (length body) 6 long, ← at, lt-ltb (template_length row) offset h) l

      -- of as many bytes as are due
      part_sent : (from n : ℕ) → from + n ≤ length templates → template_start row + offset ≡ from
          → cut_to_limit service (part templates from n) limit ≡ send_template templates row service offset n limit
      unfolding cut_to_limit send_template
      part_sent from n h e =
          by_test (leb n (limit - 4)) (λ t. rw (length_part templates from n h, e, t)) (λ t.
          let m : limit - 4 ≤ n = omega (arith, leb-false n (limit - 4) t) in
          rw (length_part templates from n h, e, t, take-take (limit - 4) n (drop from templates) m))

      pub reply-part : (from n : ℕ) (due : List ℕ) → offset ≤ template_length row → template_start row + template_length row ≤ length templates
          → from ≡ template_start row + offset → n ≡ min (u16_at body 4) (template_length row - offset) → due ≡ part templates from n
          → Laid limit (cut_to_limit service due limit) old r new → Replied
      unfolding template_reply
      reply-part from n due h fits f e d l =
          rw (le-ltb (length body) 6 long, ← at, le-ltb (template_length row) offset h, ← e, ← (part_sent from n (omega arith) (omega arith)), ← d) l

-- the templates of valid tables lie in their store
pub in_store : (t : Tables) (memory : ℕ) → valid t memory ≡ true → InStore (length t.templates) t.structures
unfolding valid t4 structure_fits
in_store t memory v i h =
    let four = (both_true (t4 t) _ (both_true (t3 t) _ (both_true (t2 t) _ (both_true (t1 t memory) _ (both_true (encoded t) _ v).1).1).1).1).0 in
    let fits = every_from_at (structure_fits t.structures t.members (length t.templates)) [] 0 t.structures i i (both_true _ _ four).0 h
    (omega arith) in
    let row = get_or t.structures i [] in
    leb-true _ _ (both_true (leb (template_start row + template_length row) (length t.templates)) _
    (both_true (leb (structure_size row) 65535) _ (both_true (ltb 0 (structure_size row)) _ fits).1).1).0
