-- The tag of a create frame (document 01, 0x0101), and the display name.
use Rattle.std.specs.Prelude.{Bool, cond, not, ◌&&◌, List, [], ◌∷◌, ℕ, suc, ltb, eqb, length, take, drop}
use Rattle.std.specs.Prelude.{Option, None, Some}
use Rattle.field.specs.Field.{field}
use Rattle.tag.specs.Utf8.{utf8}

-- the type of a create frame, its length, and the offset and size of the tag in it
abbrev pub create_type : ℕ
create_type = 0x0101

abbrev pub create_length : ℕ
create_length = 88

abbrev pub tag_offset : ℕ
tag_offset = 24

abbrev pub tag_size : ℕ
tag_size = 64

-- the place of the first NUL, or the length where there is none
unfoldable pub nul_at : List ℕ → ℕ
nul_at [] = 0
nul_at (b ∷ bs) = cond (eqb b 0) 0 (suc (nul_at bs))

-- what stands before the first NUL
abbrev pub tag_text : List ℕ → List ℕ
tag_text t = take (nul_at t) t

-- there is a NUL, and what stands before the first one is UTF-8; what stands after it is free
unfoldable pub good_tag : List ℕ → Bool
good_tag t = ltb (nul_at t) (length t) && utf8 (tag_text t)

-- how many octets a good tag has before its NUL; none for a bad tag
unfoldable pub tag_length : List ℕ → Option ℕ
tag_length t = cond (good_tag t) (Some (nul_at t)) None

-- the tag of a frame
abbrev pub tag_in : List ℕ → List ℕ
tag_in frame = take tag_size (drop tag_offset frame)

-- the frame is 88 bytes of type 0x0101 with a good, non-empty tag
unfoldable pub carries_name : List ℕ → Bool
carries_name frame =
    eqb (length frame) create_length
    && eqb (field 4 frame 0) create_type
    && good_tag (tag_in frame)
    && not (eqb (nul_at (tag_in frame)) 0)

-- the tag before its NUL where the frame has such a tag, else the whole of the site's name. Document 01 calls it the name on the wall.
unfoldable pub display_name : List ℕ → List ℕ → List ℕ
display_name frame site = cond (carries_name frame) (tag_text (tag_in frame)) site
