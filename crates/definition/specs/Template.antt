-- Document 01, item 12 and "Fragment": a template read (0x4C on class 0x6C).
-- 1756-PM020 (Read Template) defines the fields, offset and number of bytes, and status 0x06; document 01 alone the refusals.
use Rattle.std.specs.Prelude.{List, ℕ, ◌+◌, ◌-◌, min, ltb, leb, eqb, length}
use Rattle.laws.specs.Pick.{pick}
use Rattle.definition.specs.Bytes.{u16_at, u32_at, part}
use Rattle.definition.specs.Reply.{reply, fail, success, partial, too_large, too_short, beyond_end}
use Rattle.definition.specs.Tables.{Row, template_start, template_length}

-- `due` bytes from an offset of a template, cut to s = limit - 4 with no rounding [PM020]; 0x11 if any is due and s is 0 [01]
unfoldable pub send_template : (templates : List ℕ) → Row → (service offset due limit : ℕ) → List ℕ
send_template templates r service offset due limit =
    let s = limit - 4 in
    let from = template_start r + offset in
    pick (leb due s) (reply service success (part templates from due))
    (pick (eqb s 0) (fail service too_large) (reply service partial (part templates from s)))

-- the smaller of the wanted count and the bytes left is due [01]
unfoldable pub template_reply : (templates : List ℕ) → Row → (service : ℕ) (body : List ℕ) (limit : ℕ) → List ℕ
template_reply templates r service body limit =
    let offset = u32_at body 0 in
    pick (ltb (length body) 6) (fail service too_short)
    (pick (ltb (template_length r) offset) (fail service beyond_end)
    (send_template templates r service offset (min (u16_at body 4) (template_length r - offset)) limit))
