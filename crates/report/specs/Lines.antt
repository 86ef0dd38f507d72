-- The lines that the program writes.
use Rattle.std.specs.Prelude.{cond, List, [], ◌∷◌, ◌++◌, ℕ, ltb, length, drop}
use Rattle.laws.specs.Texts.{bytes}
use Rattle.refusal.specs.declared.Refusal.{Refusal}
use Rattle.load.specs.declared.Counts.{Counts}
use Rattle.report.specs.declared.FileName.{FileName}
use Rattle.report.specs.declared.FileName.TheVariants.{Edg, Edx, Fac, Rng, Cnd, Cnx}
use Rattle.report.specs.Text.{decimal, space, line_end}

abbrev pub file_text : FileName → List ℕ
file_text Edg = bytes "edg"
file_text Edx = bytes "edx"
file_text Fac = bytes "fac"
file_text Rng = bytes "rng"
file_text Cnd = bytes "cnd"
file_text Cnx = bytes "cnx"

abbrev pub refuse_text : List ℕ
refuse_text = bytes "REFUSE "

abbrev pub accept_text : List ℕ
accept_text = bytes "ACCEPT nodes "

abbrev pub edges_text : List ℕ
edges_text = bytes " edges "

abbrev pub faces_text : List ℕ
faces_text = bytes " faces "

abbrev pub rings_text : List ℕ
rings_text = bytes " rings "

abbrev pub ring_text : List ℕ
ring_text = bytes "ring "

abbrev pub face_text : List ℕ
face_text = bytes " face "

abbrev pub steps_text : List ℕ
steps_text = bytes "steps "

-- `REFUSE edg 23 2`: file, number, place
unfoldable pub refuse_line : FileName → Refusal → List ℕ
refuse_line f q = refuse_text ++ (file_text f ++ (space ∷ (decimal q.number ++ (space ∷ (decimal q.place ++ (line_end ∷ []))))))

-- `ACCEPT nodes 3 edges 3 faces 2 rings 2`
unfoldable pub accept_line : Counts → List ℕ
accept_line c =
    accept_text ++ (decimal c.nodes ++ (edges_text ++ (decimal c.edges ++ (faces_text ++ (decimal c.faces ++ (rings_text ++ (decimal c.rings ++ (line_end ∷ []))))))))

-- `ring 1 face 1 steps 3`
unfoldable pub ring_line : ℕ → ℕ → ℕ → List ℕ
ring_line row face steps =
    ring_text ++ (decimal row ++ (face_text ++ (decimal face ++ (space ∷ (steps_text ++ (decimal steps ++ (line_end ∷ [])))))))

-- `steps 6`
unfoldable pub steps_line : ℕ → List ℕ
steps_line n = steps_text ++ (decimal n ++ (line_end ∷ []))

-- room for every line, whatever its numbers
abbrev pub line_room : ℕ
line_room = 128

-- a lent buffer with a text at its front, the rest as it was
abbrev pub with_front : List ℕ → List ℕ → List ℕ
with_front text d = text ++ drop (length text) d

-- a line told into a lent buffer, and its bytes: none, and the buffer as it was, where that has not room for every line
abbrev pub told : List ℕ → List ℕ → List ℕ
told line d = cond (ltb (length d) line_room) d (with_front line d)

abbrev pub bytes_told : List ℕ → List ℕ → ℕ
bytes_told line d = cond (ltb (length d) line_room) 0 (length line)
