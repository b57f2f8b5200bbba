-- The values of an object's attributes and the bytes of its list's reply, as the definition has them.
-- Assumes nothing.
use Rattle.std.proofs.Common.{◌≡◌, ℕ, ◌+◌, ◌%◌, ◌<◌, ◌≤◌, Bool, true, false, eqb, List, [], ◌++◌, length, get_or, sym, refl, ◌∙◌, arith}
use Rattle.std.specs.Prelude.{Option, None, Some}
use Rattle.laws.specs.Put.{put, zeroed}
use Rattle.laws.specs.Pick.{pick, is_some}
use Rattle.laws.proofs.Chain.{chain}
use Rattle.laws.proofs.Put.{put_then}
use Rattle.definition.specs.Bytes.{le16, le32, counted}
use Rattle.definition.specs.Reply.{reply, room, success, fail, too_large, path_unknown}
use Rattle.definition.specs.Tables.{Tables, Row, other_name}
use Rattle.definition.specs.Lookup.{program_of, template_in, id_in}
use Rattle.definition.specs.Attributes.{attribute_entry, attribute_entries, list_reply, structure_attribute, structure_attributes, program_reference}
use Rattle.definition.specs.Attributes.{symbol_attributes}
use Rattle.definition.specs.Answer.{capped}
use Rattle.cip.specs.Writes.{Written, Laid}
use Rattle.cip.proofs.Laws.{finished}
use Rattle.cip.proofs.Capped.{header_then, capped_fits, capped-large}
use Rattle.model.specs.Tables.{Whatever}
use Rattle.model.proofs.Laws.{le16_low}
use Rattle.listing.specs.Objects.{attributes_lent, object_value}
use Rattle.listing.proofs.Lists.{Adds}
use Rattle.listing.specs.declared.attributes.Object.{Object}
use Rattle.listing.specs.declared.attributes.Object.TheVariants.{Structure, Symbol}

-- ---- values: of a number only the low 16 bits are sent

pub short_low : (x y : ℕ) → x ≡ y % 65536 → Some (le16 x) ≡ Some (le16 y)
short_low x y e = rw (e, le16_low)

pub long_same : (x y : ℕ) → x ≡ y → Some (le32 x) ≡ Some (le32 y)
long_same x y e = rw e

pub ruleset values = (chain, short_low, long_same)

-- ---- an entry: an attribute of an object is short, and so is its entry

abbrev Short : Option (List ℕ) → Type 0
Short None = Unit {0}
Short (Some bytes) = length bytes ≤ 12

short_pick : (t : Bool) (bytes : List ℕ) (r : Option (List ℕ)) → (t ≡ true → length bytes ≤ 12) → Short r → Short (pick t (Some bytes) r)
short_pick true bytes r h s = h refl
short_pick false bytes r h s = s

value_lem : (o : Object) (a : ℕ) → Short (object_value o a)
unfolding structure_attribute
value_lem (Structure row) a =
    short_pick (eqb a 1) _ _ (λ e. omega arith) (short_pick (eqb a 2) _ _ (λ e. omega arith)
    (short_pick (eqb a 4) _ _ (λ e. omega arith) (short_pick (eqb a 5) _ _ (λ e. omega arith) tt)))
value_lem (Symbol None) a = tt
value_lem (Symbol (Some k)) a = short_pick (eqb a 0x0D) _ _ (λ e. omega arith) tt

short_by : (x : Option (List ℕ)) (bytes : List ℕ) → Some bytes ≡ x → Short x → length bytes ≤ 12
short_by x bytes e h = rw (← e) at h

entry_by : (a : ℕ) (x : Option (List ℕ)) → Short x → length (attribute_entry a x) ≤ 16
entry_by a None h = omega arith
entry_by a (Some bytes) h = omega (arith, h)

module _ (o : Object) (a : ℕ) where
  pub value_short : (bytes : List ℕ) → Some bytes ≡ object_value o a → length bytes ≤ 12
  value_short bytes e = short_by (object_value o a) bytes e (value_lem o a)

  pub entry_short : length (attribute_entry a (object_value o a)) ≤ 16
  entry_short = entry_by a (object_value o a) (value_lem o a)

-- ---- an entry's bytes: the number, a status word and the value

module _ (a at : ℕ) (old x y : List ℕ) (first : x ≡ put old at (le16 a)) where
  pub entry-unknown : y ≡ put x (at + 2) (le16 0x14) → at + 4 ≤ length old → Written at (attribute_entry a None) old 4 y
  entry-unknown p h = record { length_is = refl; buffer_is = put_then _ _ _ _ _ _ _ first p refl (omega arith) }

  pub entry_known : (bytes z : List ℕ) (k : ℕ) → y ≡ put x (at + 2) (le16 0) → Written (at + 4) bytes y k z
      → at + (4 + length bytes) ≤ length old → Written at (attribute_entry a (Some bytes)) old (4 + k) z
  entry_known bytes z k p w h = record {
    length_is = omega (arith, w.length_is);
    buffer_is =
        put_then _ _ _ _ _ _ _ (put_then _ _ _ _ _ _ _ first p refl (omega arith)) w.buffer_is refl (omega arith);
  }

-- ---- the list of an object's attributes

module _ (o : Object) where
  abbrev pub each : ℕ → List ℕ
  each a = attribute_entry a (object_value o a)

  abbrev pub all : List ℕ → List ℕ
  all l = attribute_entries (object_value o) l

  pub entries : Adds each all
  unfolding attribute_entries
  entries = record { none = refl; one = λ a l. refl }

-- ---- the reply

module _ (limit service : ℕ) (o : Object) (body old : List ℕ) where
  abbrev ListLaid : List ℕ → (r : ℕ) → Type 0
  ListLaid new r = Laid limit (capped service limit (list_reply service (object_value o) (counted body))) old r new

  module _ (list : List ℕ) (is : Some list ≡ counted body) where
    abbrev whole : List ℕ
    whole = reply service success (le16 (length list) ++ all o list)

    whole_long : length whole ≡ 6 + length (all o list)
    unfolding reply
    whole_long = omega arith

    whole_split : reply service success (le16 (length list)) ++ all o list ≡ whole
    unfolding reply
    whole_split = refl

    pub list-large : {r : ℕ} {new : List ℕ} → limit < 6 + length (all o list) → Laid limit (fail service too_large) old r new → ListLaid new r
    list-large h l = rw (← is, capped-large service limit whole (omega (arith, whole_long))) l

    pub list_sent : (w used h r : ℕ) (x y z e : List ℕ) → 6 + length (all o list) ≤ limit → length list ≤ 65535 → room limit ≤ length old
        → Written 0 (reply service success []) old h x → w ≡ length list % 65536 → y ≡ put x 4 (le16 w) → used ≡ 6 + length (all o list)
        → z ≡ put y 6 (all o list) → r ≡ used → e ≡ zeroed used (room limit) z → ListLaid e r
    list_sent w used h r x y z e fits small long a b d u q f g =
        let start = header_then service success (le16 (length list)) old x y h refl a (rw (b, le16_low) at d) (omega arith) in
        let written : Written 0 whole old used z = record {
          length_is = u ∙ sym whole_long;
          buffer_is = rw whole_split at (put_then _ _ _ _ _ _ _ start.buffer_is q (omega (arith, start.length_is)) (omega arith));
        } in
        rw (← is, capped_fits service limit whole (omega (arith, whole_long)))
        (finished limit used whole old z e r written f g (omega (arith, whole_long)) long)

module _ (limit service : ℕ) (body old new : List ℕ) (r : ℕ) where
  -- what is laid is the reply, item 20 counted
  abbrev Answered : List ℕ → Type 0
  Answered bytes = Laid limit (capped service limit bytes) old r new

  module _ (structures : List Row) (id : ℕ) where
    pub structure-listed : (i : ℕ) → Some i ≡ template_in structures id
        → Answered (list_reply service (structure_attribute (get_or structures i [])) (counted body))
        → Answered (structure_attributes structures service id body)
    unfolding structure_attributes
    structure-listed i e l = rw (← e) l

    pub structure-unknown : None ≡ template_in structures id → Answered (fail service path_unknown) → Answered (structure_attributes structures service id body)
    unfolding structure_attributes
    structure-unknown e l = rw (← e) l

  module _ (t : Tables) (id : ℕ) where
    -- in every table set with the tables that it is found in
    abbrev Listed : Type 0
    Listed = Whatever (attributes_lent t) (λ t. Answered (symbol_attributes t service id body))

    pub other_listed : (i : ℕ) (program : Option ℕ) → Some i ≡ id_in t.others 0 id → program ≡ program_of t (other_name t.names (get_or t.others i []))
        → Answered (list_reply service (program_reference program) (counted body)) → Listed
    unfolding symbol_attributes program_of
    other_listed i program e p l = λ o. rw (← e, ← p) l

    module _ (other : None ≡ id_in t.others 0 id) where
      pub symbol-unknown : false ≡ is_some (id_in t.tags 0 id) → Answered (fail service path_unknown) → Listed
      unfolding symbol_attributes
      symbol-unknown e l = λ o. rw (← other, ← e) l

      pub tag_listed : true ≡ is_some (id_in t.tags 0 id) → Answered (list_reply service (program_reference None) (counted body)) → Listed
      unfolding symbol_attributes
      tag_listed e l = λ o. rw (← other, ← e) l
