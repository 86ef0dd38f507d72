-- The machine that reads a header text byte by byte: where it stands, and what a byte does.
use Rattle.std.specs.Prelude.{Bool, false, cond, List, ℕ, ◌+◌, length, ltb, leb, eqb, Option, Some, None, Result, Ok, Err}
use Rattle.laws.specs.Machine.{End, ended, stuck, Next, go, stop, run}
use Rattle.grammar.specs.Words.{semicolon, colon, star}
use Rattle.grammar.specs.Fields.{rule, allowed}
use Rattle.grammar.specs.declared.Field.{Field}
use Rattle.grammar.specs.declared.Field.TheVariants.{OrderLetter, Name, AfterStar, TextEnd}
use Rattle.grammar.specs.declared.Special.{Special}
use Rattle.grammar.specs.declared.Special.TheVariants.{Usual, ColumnsMayEnd, StarMayStand, ColonMayStand, ColumnIsWhole, TextIsWhole}
use Rattle.grammar.specs.declared.Spot.{Spot}

-- in the field, after n of its bytes and `cols` whole columns
abbrev pub spot : Field → ℕ → ℕ → Spot
spot f n cols = record { field = f; n = n; cols = cols }

-- b is one more byte of the field
unfoldable pub takes : Field → ℕ → ℕ → Bool
takes f n b = cond (ltb n (rule f).most) (allowed (rule f).holds n b) false

-- b closes the field
unfoldable pub closes : Field → ℕ → ℕ → Bool
closes f n b = cond (eqb b (rule f).closer) (leb (rule f).least n) false

-- where a name would start, after one column at least, `;` ends the columns
unfoldable pub ends : Special → ℕ → ℕ → ℕ → Bool
ends ColumnsMayEnd n cols b = cond (eqb b semicolon) (cond (eqb n 0) (ltb 0 cols) false) false
ends Usual n cols b = false
ends StarMayStand n cols b = false
ends ColonMayStand n cols b = false
ends ColumnIsWhole n cols b = false
ends TextIsWhole n cols b = false

-- where a count would start, a star stands for it
unfoldable pub stars : Special → ℕ → ℕ → Bool
stars StarMayStand n b = cond (eqb b star) (eqb n 0) false
stars Usual n b = false
stars ColumnsMayEnd n b = false
stars ColonMayStand n b = false
stars ColumnIsWhole n b = false
stars TextIsWhole n b = false

-- after 1 byte at least of a column's last name, `:` ends the column: "Accept a column with that comma missing."
unfoldable pub lacks_comma : Special → ℕ → ℕ → Bool
lacks_comma ColonMayStand n b = cond (eqb b colon) (ltb 0 n) false
lacks_comma Usual n b = false
lacks_comma ColumnsMayEnd n b = false
lacks_comma StarMayStand n b = false
lacks_comma ColumnIsWhole n b = false
lacks_comma TextIsWhole n b = false

-- the columns that are whole once the field is closed
abbrev pub columns_after : Special → ℕ → ℕ
columns_after ColumnIsWhole cols = cols + 1
columns_after Usual cols = cols
columns_after ColumnsMayEnd cols = cols
columns_after StarMayStand cols = cols
columns_after ColonMayStand cols = cols
columns_after TextIsWhole cols = cols

-- where the byte that closes a field leads
abbrev pub closed : Field → ℕ → Spot
closed f cols = spot (rule f).next 0 (columns_after (rule f).special cols)

-- what a byte does: where the reading stands then, or that no text goes on so
abbrev pub Move : Type 0
Move = Option Spot

-- what a byte does that is not taken into the field and does not close it, and what one does that is not taken into the field
abbrev pub special_move : Special → ℕ → ℕ → ℕ → Move
special_move k n cols b =
    cond (ends k n cols b) (Some (spot TextEnd 0 cols))
    (cond (stars k n b) (Some (spot AfterStar 0 cols))
    (cond (lacks_comma k n b) (Some (spot Name 0 (cols + 1))) None))

abbrev pub past_move : Field → ℕ → ℕ → ℕ → Move
past_move f n cols b = cond (closes f n b) (Some (closed f cols)) (special_move (rule f).special n cols b)

unfoldable pub move : Spot → ℕ → Move
move s b = cond (takes s.field s.n b) (Some (spot s.field (s.n + 1) s.cols)) (past_move s.field s.n s.cols b)

abbrev pub next_of : Move → Next Spot
next_of (Some s) = go s
next_of None = stop

abbrev pub machine : Spot → ℕ → Next Spot
machine s b = next_of (move s b)

abbrev pub start : Spot
start = spot OrderLetter 0 0

-- what a scan finds: how many columns a text has, or the place of its first bad byte
abbrev pub Scan : Type 0
Scan = Result ℕ ℕ

-- at the end of the text: the columns, or the place where more is wanted
abbrev pub finish : ℕ → Special → ℕ → Scan
finish n TextIsWhole cols = Ok cols
finish n Usual cols = Err n
finish n ColumnsMayEnd cols = Err n
finish n StarMayStand cols = Err n
finish n ColonMayStand cols = Err n
finish n ColumnIsWhole cols = Err n

abbrev pub answer : ℕ → End Spot → Scan
answer n (ended s) = finish n (rule s.field).special s.cols
answer n (stuck i) = Err i

-- THE SCAN of a text: how many columns it has, or the first byte that cannot continue (the text's length where it ends too soon)
unfoldable pub scan_of : List ℕ → Scan
scan_of s = answer (length s) (run machine s start 0)
