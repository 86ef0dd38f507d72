-- Demand 1 for the operations for C, whose answers are structs of plain numbers (`plainX` of crate `abi`). By these one-to-one tables no
-- refusal has number 0, and a struct with a number tells the whole refusal and nothing else.
use Rattle.std.specs.Prelude.{◌≡◌, ◌↔◌, List, ◌++◌, ℕ, pos, Result, Err}
use Rattle.refusal.specs.declared.Refusal.{Refusal}
use Rattle.number.specs.declared.Order.{Order}
use Rattle.wave.specs.Height.{height_of}
use Rattle.wave.specs.Judgement.{judgement_of}
use Rattle.triplet.specs.declared.Ids.{Ids}
use Rattle.triplet.specs.Triplet.{triplet_of}
use Rattle.triplet.specs.Written.{written_of}
use Rattle.header.specs.Layouts.{header_of}
use Rattle.header.specs.Steps.{step_of}
use Rattle.opening.specs.declared.Opened.{Opened}
use Rattle.limits.specs.Limits.{most_rows}
use Rattle.opening.specs.Opening.{opened_of}
use Rattle.rectangle.specs.Rectangles.{refused_with}
use Rattle.load.specs.declared.Finding.{Finding}
use Rattle.load.specs.Sources.{Files}
use Rattle.load.specs.Load.{load_of}
use Rattle.tile.specs.Columns.{Tile}
use Rattle.tile.specs.Check.{verdict_of}
use Rattle.tile.specs.Walk.{walk_of}
use Rattle.abi.specs.declared.PlainVerdict.{PlainVerdict}
use Rattle.abi.specs.declared.PlainSteps.{PlainSteps}
use Rattle.abi.specs.declared.PlainHeight.{PlainHeight}
use Rattle.abi.specs.declared.PlainJudgement.{PlainJudgement}
use Rattle.abi.specs.declared.PlainTriplet.{PlainTriplet}
use Rattle.abi.specs.declared.PlainWritten.{PlainWritten}
use Rattle.abi.specs.declared.PlainHeader.{PlainHeader}
use Rattle.abi.specs.declared.PlainColumn.{PlainColumn}
use Rattle.abi.specs.declared.PlainTable.{PlainTable}
use Rattle.abi.specs.declared.PlainRow.{PlainRow}
use Rattle.abi.specs.declared.PlainValue.{PlainValue}
use Rattle.abi.specs.declared.PlainRectangle.{PlainRectangle}
use Rattle.abi.specs.declared.PlainLoaded.{PlainLoaded}
use Rattle.abi.specs.Plain.{plain_verdict, plain_steps, plain_height, plain_judgement, plain_triplet, plain_written}
use Rattle.abi.specs.PlainTables.{plain_header, plain_table, plain_row, row_in, judged, rows_judged, plain_value, value_in}
use Rattle.abi.specs.PlainTables.{nowhere, plain_bounds, plain_rectangle, rectangle_in}
use Rattle.abi.specs.PlainColumns.{no_column, plain_column}
use Rattle.abi.specs.PlainLoads.{table_number, plain_loaded}
use Rattle.demands.specs.Numbers.{Among, of_wave, of_triplet, of_writing, of_header, of_step, of_opening, of_row, of_value, of_rectangle}
use Rattle.demands.specs.Numbers.{of_load, of_check, of_walk}

-- WHAT THE STRUCT s TELLS of the answer a: `refused q` is the answer that refuses with q, and `told q` the struct with its number, its
-- place and 0 in every other member
pub record Tells {A P Q : Type 0} (refused : Q → A) (told : Q → P) (number : P → ℕ) (numbers : List ℕ) (a : A) (s : P) : Type 0 where
  -- the number is 0 exactly when nothing is refused
  pub none : (number s ≡ 0) ↔ ((q : Q) → a ≡ refused q → ⊥)
  -- a refusal is told exactly when it is given, with one of the operation's numbers
  pub some : (q : Q) → (a ≡ refused q) ↔ ((s ≡ told q) × Among numbers (number (told q)))

-- ---- the struct of a refusal, for each kind of answer

abbrev pub told_height : Refusal → PlainHeight
told_height q = record { number = q.number; place = q.place; thousandths = 0 }

abbrev pub told_judgement : Refusal → PlainJudgement
told_judgement q = record { number = q.number; place = q.place; passes = 0 }

abbrev pub told_triplet : Refusal → PlainTriplet
told_triplet q = record { number = q.number; place = q.place; id = 0; tile = 0; other = 0; bytes = 0 }

abbrev pub told_written : Refusal → PlainWritten
told_written q = record { number = q.number; place = q.place; bytes = 0 }

abbrev pub told_header : Refusal → PlainHeader
told_header q = record { number = q.number; place = q.place; order = 0; start = 0; columns = 0; id = 0; width = 0 }

abbrev pub told_column : Refusal → PlainColumn
told_column q = no_column q.number q.place

abbrev pub told_table : Refusal → PlainTable
told_table q = record { number = q.number; place = q.place; order = 0; start = 0; columns = 0; id = 0; width = 0; rows = 0 }

abbrev pub told_row : Refusal → PlainRow
told_row q = record { number = q.number; place = q.place; start = 0; end = 0 }

abbrev pub told_value : Refusal → PlainValue
told_value q =
    record {
      number = q.number;
      place = q.place;
      kind = 0;
      short = pos 0;
      integer = pos 0;
      bits = 0;
      id = 0;
      tile = 0;
      other = 0;
      start = 0;
      bytes = 0;
    }

abbrev pub told_rectangle : Refusal → PlainRectangle
told_rectangle q = plain_bounds q.number q.place 0 nowhere nowhere

-- a load's refusal speaks of a table too: 1 edg, 2 fac, 3 rng, 4 cnd
abbrev pub told_load : Finding → PlainLoaded
told_load q =
    record {
      number = q.refusal.number;
      place = q.refusal.place;
      table = table_number q.table;
      edges = 0;
      faces = 0;
      rings = 0;
      nodes = 0;
    }

abbrev pub told_verdict : Refusal → PlainVerdict
told_verdict q = record { number = q.number; place = q.place }

abbrev pub told_steps : Refusal → PlainSteps
told_steps q = record { number = q.number; place = q.place; steps = 0 }

-- ---- the operations

abbrev pub opened : List ℕ → List ℕ → Result Opened Refusal
opened file index = opened_of file index most_rows

-- Each struct is the one that the operation's contract says. (`vumbarete_find_column` and
-- `vumbarete_first_place` answer with a number and refuse nothing.)
pub record ForC : Type 0 where
  pub height : (text : List ℕ)
      → Tells Err told_height (λ (s : PlainHeight). s.number) of_wave (height_of text) (plain_height (height_of text))
  pub passes : (measured limit : List ℕ)
      → Tells Err told_judgement (λ (s : PlainJudgement). s.number) of_wave (judgement_of measured limit)
      (plain_judgement (judgement_of measured limit))
  pub triplet : (o : Order) (bytes : List ℕ)
      → Tells Err told_triplet (λ (s : PlainTriplet). s.number) of_triplet (triplet_of o bytes) (plain_triplet (triplet_of o bytes))
  pub write_triplet : (len at : ℕ) (t : Ids)
      → Tells Err told_written (λ (s : PlainWritten). s.number) of_writing (written_of len at t) (plain_written (written_of len at t))
  pub header : (file : List ℕ)
      → Tells Err told_header (λ (s : PlainHeader). s.number) of_header (header_of file) (plain_header (header_of file))
  pub column_step : (file : List ℕ) (place : ℕ)
      → Tells Err told_column (λ (s : PlainColumn). s.number) of_step (step_of file place) (plain_column (step_of file place))
  pub open_table : (file index : List ℕ)
      → Tells Err told_table (λ (s : PlainTable). s.number) of_opening (opened file index) (plain_table (opened file index))
  pub judge_rows : (file index : List ℕ)
      → Tells Err told_table (λ (s : PlainTable). s.number) (of_row ++ of_opening) (judged file index (opened file index))
      (rows_judged file index (opened file index))
  pub row : (file index : List ℕ) (i : ℕ)
      → Tells Err told_row (λ (s : PlainRow). s.number) (of_value ++ of_opening) (row_in file index i) (plain_row (row_in file index i))
  pub value : (file index : List ℕ) (i k : ℕ)
      → Tells Err told_value (λ (s : PlainValue). s.number) (of_value ++ of_opening) (value_in file index i k)
      (plain_value (value_in file index i k))
  pub rectangle : (file index : List ℕ) (i k : ℕ)
      → Tells refused_with told_rectangle (λ (s : PlainRectangle). s.number) (of_rectangle ++ of_opening) (rectangle_in file index i k)
      (plain_rectangle (rectangle_in file index i k))
  pub load : (f : Files) (most : ℕ) (lengths : List ℕ)
      → Tells Err told_load (λ (s : PlainLoaded). s.number) of_load (load_of f most lengths) (plain_loaded (load_of f most lengths))
  pub check : (t : Tile) (space : ℕ)
      → Tells Err told_verdict (λ (s : PlainVerdict). s.number) of_check (verdict_of t space) (plain_verdict (verdict_of t space))
  pub walk : (t : Tile) (r space : ℕ)
      → Tells Err told_steps (λ (s : PlainSteps). s.number) of_walk (walk_of t r space) (plain_steps (walk_of t r space))
