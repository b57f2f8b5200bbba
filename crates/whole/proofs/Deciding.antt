-- What a whole read comes to, by what was sized before anything is sent.
-- Assumes nothing.
use Rattle.std.proofs.Common.{◌≡◌, ℕ, ◌+◌, ◌≤◌, ◌<◌, false, List, length, sym, refl, ◌∙◌, arith, lt-ltb, le-ltb}
use Rattle.std.specs.Prelude.{Option, None, Some, Result, Ok, Err}
use Rattle.laws.specs.Put.{laid}
use Rattle.laws.proofs.Chain.{clash}
use Rattle.definition.specs.Reply.{room}
use Rattle.definition.specs.Tables.{Tables, Flags, Row}
use Rattle.definition.specs.Resolve.{Resolved, found, turned}
use Rattle.definition.specs.Access.{tag_target}
use Rattle.definition.specs.Read.{Selection, selected_bytes, granted, selection, ask_target}
use Rattle.definition.proofs.Replies.{header-short}
use Rattle.cip.specs.Writes.{Written}
use Rattle.cip.specs.declared.Status.{Status}
use Rattle.reads.specs.Reading.{grant_of, asked_by}
use Rattle.reads.proofs.Reading.{ask_by}
use Rattle.whole.specs.declared.ReplyStatus.{ReplyStatus}
use Rattle.whole.specs.declared.Unjoined.TheVariants.{TooShort, TooNarrow, Turned}
use Rattle.whole.specs.declared.sizes.Size.{Size}
use Rattle.whole.specs.Asked.{Taken}
use Rattle.whole.specs.Whole.{chosen, Received, received, is_sendable, status_in, whole_of}
use Rattle.whole.specs.Parts.{sized_of, chosen_bytes, last_of, Joinable}
use Rattle.whole.proofs.Sending.{readable}

-- ---- something was sized: it is selected

record Sized (memory : List ℕ) (o : Option Selection) (v : Size) : Type 0 where
  selected : Selection
  is : o ≡ Some selected
  size_is : v.bytes ≡ length (selected_bytes selected memory)
  header_is : v.header ≡ length selected.header

sized_some : (memory : List ℕ) (o : Option Selection) (v : Size) → Some v ≡ sized_of memory o → Sized memory o v
unfolding sized_of
sized_some memory None v e = clash (cc e)
sized_some memory (Some s) v e = record { selected = s; is = refl; size_is = cc e; header_is = cc e }

-- a type header has at most 4 bytes
granted-header : (structures : List Row) (r : Resolved) (elements : ℕ) (s : Selection) → ask_target structures r elements ≡ granted s → length s.header ≤ 4
unfolding selection
granted-header structures (turned status) elements s e = clash (cc e)
granted-header structures (found g) elements s e = go (grant_of g.bit g.count elements) (sym (ask_by structures g elements) ∙ e)
  where
    go : (v : Result (Unit {0}) Status) → asked_by (selection structures g elements) v ≡ granted s → length s.header ≤ 4
    go (Ok unit) q = let k : selection structures g elements ≡ s = cc q in rw (← k) (header-short structures g.type)
    go (Err status) q = clash (cc q)

module _ {t : Tables} (f : Flags) {memory : List ℕ} (path : List ℕ) (elements : ℕ) {limit buffer : ℕ} {o : Option Size} {v : Size}
    (a : Taken (is_sendable path) t memory limit buffer) (sized : o ≡ sized_of memory (chosen t f path elements)) (e : o ≡ Some v) where
  some_sized : Sized memory (chosen t f path elements) v
  some_sized = sized_some memory (chosen t f path elements) v (sym e ∙ sized)

  pub sized_header : elements < 65536 → v.header ≤ 4
  sized_header count =
      let s = some_sized in
      let r = readable t f memory path elements s.selected a.sendable a.tables count s.is in
      omega (arith, s.header_is, granted-header t.structures (tag_target t f false r.decoded) elements s.selected r.grants)

  pub sized_joinable : (out : ℕ) → 5 + v.header ≤ limit → v.bytes ≤ out → Joinable t f memory path elements limit v.header out
  sized_joinable out h k =
      let s = some_sized in
      record { selection = s.selected; chosen_is = s.is; header_is = s.header_is; some_room = h; fits = omega (arith, s.size_is) }

-- ---- what it comes to

module _ (memory : List ℕ) (o : Option Selection) (first : List ℕ) (limit : ℕ) (buffer out : List ℕ) where
  abbrev whole : Received
  whole = whole_of o first memory limit buffer out

  pub whole_turned : (x : ReplyStatus) (new : List ℕ) → None ≡ sized_of memory o → x ≡ status_in first → new ≡ laid (room limit) buffer first
      → received (Err (Turned x)) out new ≡ whole
  unfolding sized_of whole_of
  whole_turned x new e k l = go o e
    where
      go : (p : Option Selection) → None ≡ sized_of memory p → received (Err (Turned x)) out new ≡ whole_of p first memory limit buffer out
      go None q = rw (k, l) refl
      go (Some s) q = clash (cc q)

  module _ {w : Option Size} (sized : w ≡ sized_of memory o) (v : Size) (e : w ≡ Some v) where
    here : Sized memory o v
    here = sized_some memory o v (sym e ∙ sized)

    pub whole_narrow : limit < 5 + v.header → received (Err TooNarrow) out buffer ≡ whole
    unfolding whole_of
    whole_narrow h = rw (here.is, ← here.header_is, lt-ltb limit (5 + v.header) h) refl

    pub whole_short : 5 + v.header ≤ limit → length out < v.bytes → received (Err (TooShort v.bytes)) out buffer ≡ whole
    unfolding whole_of
    whole_short h k =
        rw (here.is, ← here.header_is, le-ltb limit (5 + v.header) h, ← here.size_is, lt-ltb (length out) v.bytes k) refl

    pub whole_joined : (r : ℕ) (filled new : List ℕ) → 5 + v.header ≤ limit → v.bytes ≤ length out → Written 0 (chosen_bytes memory o) out r filled
        → new ≡ laid (room limit) buffer (last_of memory limit o) → received (Ok r) filled new ≡ whole
    unfolding sized_of whole_of
    whole_joined r filled new h k = go o (sym e ∙ sized)
      where
        go : (p : Option Selection) → Some v ≡ sized_of memory p → Written 0 (chosen_bytes memory p) out r filled
            → new ≡ laid (room limit) buffer (last_of memory limit p) → received (Ok r) filled new ≡ whole_of p first memory limit buffer out
        go None q w l = clash (cc q)
        go (Some s) q w l =
            let a : v.header ≡ length s.header = cc q in
            let b : v.bytes ≡ length (selected_bytes s memory) = cc q in
            let c = le-ltb limit (5 + length s.header) (omega arith) in
            rw (l, w.buffer_is, w.length_is, c, le-ltb (length out) (length (selected_bytes s memory)) (omega arith)) refl
