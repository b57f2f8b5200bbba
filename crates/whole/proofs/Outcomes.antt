-- What a whole list comes to, by the scope, the list of attributes and what was measured before anything is asked for.
-- Assumes nothing.
use Rattle.std.proofs.Common.{◌≡◌, ℕ, ◌+◌, ◌≤◌, ◌<◌, suc, true, false, leb, List, length, refl, arith, lt-ltb, le-ltb, eq-eqb, ne_eqb, leb-true}
use Rattle.std.specs.Prelude.{Option, None, Some, Ok, Err}
use Rattle.laws.specs.Put.{laid}
use Rattle.laws.specs.Tests.{every}
use Rattle.laws.proofs.Tests.{among, both-none}
use Rattle.definition.specs.Bytes.{counted}
use Rattle.definition.specs.Reply.{room}
use Rattle.definition.specs.Tables.{Tables}
use Rattle.definition.specs.Lookup.{program_of}
use Rattle.definition.specs.Valid.{valid, t1}
use Rattle.definition.specs.Page.{Entry, bytes_of, page_reply}
use Rattle.definition.specs.Symbols.{is_listed, due}
use Rattle.cip.specs.Writes.{Written}
use Rattle.whole.specs.declared.ReplyStatus.{ReplyStatus}
use Rattle.whole.specs.declared.Unjoined.TheVariants.{TooShort, TooNarrow, Turned}
use Rattle.whole.specs.Whole.{Received, received, status_in}
use Rattle.whole.specs.Lists.{scope_of, entries_in, entries_of, longest, last_page, whole_of_list}
use Rattle.whole.specs.Turns.{Granted, Measured}

-- ---- no entries: the scope is unknown, the list of attributes short, or one of its numbers unknown

module _ (t : Tables) (program attributes : List ℕ) where
  pub entries-nowhere : scope_of t program ≡ None → entries_of t program attributes ≡ None
  unfolding entries_of
  entries-nowhere e = rw e refl

  pub entries-cut : counted attributes ≡ None → entries_of t program attributes ≡ None
  unfolding entries_of
  entries-cut e = rw e (go (scope_of t program))
    where
      go : (s : Option ℕ) → entries_in t s None ≡ None
      go None = refl
      go (Some scope) = refl

  pub entries-unknown : (numbers : List ℕ) → counted attributes ≡ Some numbers → every is_listed numbers ≡ false → entries_of t program attributes ≡ None
  unfolding entries_of
  entries-unknown numbers e b = rw e (go (scope_of t program))
    where
      go : (s : Option ℕ) → entries_in t s (Some numbers) ≡ None
      go None = refl
      go (Some scope) = rw b refl

pub few_scopes : (t : Tables) (memory : ℕ) → valid t memory ≡ true → length t.programs ≤ 65535
unfolding valid t1
few_scopes t memory v = omega (arith, leb-true (length t.programs) 16 (among (leb (length t.programs) 16) _ v (λ e. simp (e, both-none))))

-- ---- what it comes to

pub list_turned : {o : Option (List Entry)} {x : ReplyStatus} (first : List ℕ) (limit : ℕ) {new : List ℕ} (old out : List ℕ) → o ≡ None → x ≡ status_in first
    → new ≡ laid (room limit) old first → received (Err (Turned x)) out new ≡ whole_of_list o first limit old out
unfolding whole_of_list
list_turned first limit old out e k b = rw (e, k, b) refl

module _ {t : Tables} {program attributes : List ℕ} {scope id : ℕ} {numbers : List ℕ} (g : Granted t program attributes scope numbers) (start : id ≡ 0) where
  abbrev entries : List Entry
  entries = due t scope numbers id

  entries_are : entries_of t program attributes ≡ Some entries
  unfolding entries_of
  entries_are = rw (g.scope_is, g.numbers_are, g.accepted, start) refl

  module _ (first : List ℕ) (limit : ℕ) (buffer out : List ℕ) where
    abbrev whole : Received
    whole = whole_of_list (entries_of t program attributes) first limit buffer out

    narrow_by : limit < 4 + longest entries → received (Err TooNarrow) out buffer ≡ whole
    unfolding whole_of_list
    narrow_by h = rw (entries_are, lt-ltb limit (4 + longest entries) h) refl

    pub list_tiny : limit < 4 → received (Err TooNarrow) out buffer ≡ whole
    list_tiny h = narrow_by (omega arith)

    module _ {v : Option ℕ} (measured : Measured entries limit v) where
      pub list_narrow : v ≡ None → received (Err TooNarrow) out buffer ≡ whole
      list_narrow q = narrow_by (rw q at measured)

      module _ {total : ℕ} (q : v ≡ Some total) where
        total_is : (total ≡ length (bytes_of entries)) × (4 + longest entries ≤ limit)
        total_is = rw q at measured

        pub list_fits : total ≤ length out → (4 + longest entries ≤ limit) × (length (bytes_of entries) ≤ length out)
        list_fits h = (total_is.1, omega (arith, total_is.0))

        pub list_short : length out < total → received (Err (TooShort total)) out buffer ≡ whole
        unfolding whole_of_list
        list_short h =
            rw (entries_are, le-ltb limit (4 + longest entries) total_is.1, ← total_is.0, lt-ltb (length out) total h) refl

        pub list_joined : {r : ℕ} {filled new : List ℕ} → total ≤ length out → Written 0 (bytes_of entries) out r filled
            → new ≡ laid (room limit) buffer (page_reply 0x55 (last_page limit entries) limit) → received (Ok r) filled new ≡ whole
        unfolding whole_of_list
        list_joined h w b =
            let fits = le-ltb (length out) (length (bytes_of entries)) (omega (arith, total_is.0)) in
            rw (entries_are, w.buffer_is, w.length_is, b, le-ltb limit (4 + longest entries) total_is.1, fits) refl

-- ---- the scope

module _ (t : Tables) (program : List ℕ) where
  pub scope_controller : length program ≡ 0 → Some 0 ≡ scope_of t program
  unfolding scope_of
  scope_controller e = rw (eq-eqb (length program) 0 e) refl

  pub scope_unknown : (length program ≡ 0 → ⊥) → program_of t program ≡ None → None ≡ scope_of t program
  unfolding scope_of
  scope_unknown some e = rw (ne_eqb (length program) 0 some, e) refl

  pub scope_known : (k : ℕ) → (length program ≡ 0 → ⊥) → program_of t program ≡ Some k → Some (k + 1) ≡ scope_of t program
  unfolding scope_of
  scope_known k some e = let n : suc k ≡ k + 1 = omega arith in rw (ne_eqb (length program) 0 some, e, n) refl
