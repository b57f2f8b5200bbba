-- The head of a table image: its counts and the bytes of the whole image.
use Rattle.std.specs.Prelude.{◌≡◌, ℕ, ◌+◌, ◌*◌, List}
use Rattle.definition.specs.Bytes.{u32_at}
use Rattle.simulator.specs.declared.head.Head.{Head}

-- ten words behind the magic: the flags, then the counts
abbrev pub HeadIn : (image : List ℕ) → Head → Type 0
HeadIn image h =
    (h.flags ≡ u32_at image 8) × (h.structures ≡ u32_at image 12) × (h.members ≡ u32_at image 16) × (h.programs ≡ u32_at image 20)
    × (h.tags ≡ u32_at image 24) × (h.others ≡ u32_at image 28) × (h.names ≡ u32_at image 32) × (h.tag_names ≡ u32_at image 36)
    × (h.templates ≡ u32_at image 40) × (h.memory ≡ u32_at image 44)

-- the head and the rows
abbrev pub rows_size : Head → ℕ
rows_size h = 48 + 40 * h.structures + 36 * h.members + 8 * h.programs + 48 * h.tags + 20 * h.others

-- the names, the templates and the tag memory
abbrev pub stores_size : Head → ℕ
stores_size h = h.names + h.tag_names + h.templates + h.memory

abbrev pub image_size : Head → ℕ
image_size h = rows_size h + stores_size h
