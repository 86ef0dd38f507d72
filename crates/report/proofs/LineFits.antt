-- Every line fits the room that is asked for it, whatever its numbers; and a line written piece by piece is the whole line.
use mathlib.Core.Path.{◌≡◌, refl, ◌∙◌}
use mathlib.Core.List.{List, ◌∷◌, ◌++◌, append_assoc}
use Prim.Native.Nat.{ℕ, ◌+◌, ◌≤◌, ◌<◌}
use native.Mathlib.Omega.{arith}
use borrow.Author.Tests.{le-ltb}
use lib.ListN.{length, length-append}
use lib.Seq.{sets}
use Rattle.laws.specs.Serving.Pieces.{Begun}
use Rattle.laws.proofs.PieceLaws.{begun_more, begun_front}
use Rattle.refusal.specs.declared.Refusal.{Refusal}
use Rattle.load.specs.declared.Counts.{Counts}
use Rattle.report.specs.declared.FileName.{FileName}
use Rattle.report.specs.declared.FileName.TheVariants.{Edg, Edx, Fac, Rng, Cnd, Cnx}
use Rattle.report.specs.Lines.{file_text, refuse_line, accept_line, ring_line, steps_line, line_room, told, bytes_told}
use Rattle.report.proofs.DecimalLaws.{decimal_short, decimal_few}

pub file_text_lem : (f : FileName) → length (file_text f) ≡ 3
file_text_lem Edg = refl
file_text_lem Edx = refl
file_text_lem Fac = refl
file_text_lem Rng = refl
file_text_lem Cnd = refl
file_text_lem Cnx = refl

pub refuse_fits : (f : FileName) (q : Refusal) → length (refuse_line f q) ≤ line_room
unfolding refuse_line
refuse_fits f q = simp (length-append, file_text_lem f) (omega (arith, decimal_short q.number, decimal_short q.place))

pub accept_fits : (c : Counts) → length (accept_line c) ≤ line_room
unfolding accept_line
accept_fits c =
    simp length-append
    (omega (arith, decimal_short c.nodes, decimal_short c.edges, decimal_short c.faces, decimal_short c.rings))

pub ring_fits : (row face steps : ℕ) → length (ring_line row face steps) ≤ line_room
unfolding ring_line
ring_fits row face steps = simp length-append (omega (arith, decimal_short row, decimal_short face, decimal_short steps))

-- a ring's line with three numbers of four digits
pub ring_short : (row face steps : ℕ) → row < 10000 → face < 10000 → steps < 10000 → length (ring_line row face steps) ≤ 31
unfolding ring_line
ring_short row face steps a b c = simp length-append (omega (arith, decimal_few 3 row a, decimal_few 3 face b, decimal_few 3 steps c))

pub steps_fits : (n : ℕ) → length (steps_line n) ≤ line_room
unfolding steps_line
steps_fits n = simp length-append (omega (arith, decimal_short n))

-- a text and a number behind it, written as one piece
pub begun_named : {d text e : List ℕ} {at : ℕ} (words number : List ℕ) {e' : List ℕ} {at' : ℕ} → Begun d text at e
    → at' ≡ at + length (words ++ number) → e' ≡ sets e at (words ++ number) → Begun d ((text ++ words) ++ number) at' e'
begun_named {text = text} words number b p h = rw (append_assoc text words number) (begun_more (words ++ number) b p h)

-- the pieces are the line's, and the buffer has room for it
pub line_written : {d text e : List ℕ} {at : ℕ} (line : List ℕ) → Begun d text at e → text ≡ line → length line ≤ line_room → line_room ≤ length d
    → (at ≡ bytes_told line d) × (e ≡ told line d)
line_written {d} {text} {e} {at} line b q h l =
    let w : Begun d line at e = rw q at b in
    rw (le-ltb (length d) line_room l) (w.place, begun_front w (omega arith))
