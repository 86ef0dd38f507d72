-- The structs of the operations for C tell their refusals, one to one.
--
-- The plan. Each kind of answer either refuses, and its struct is that refusal's, or does not, and its number is 0 (`Told`, of any Result
-- by `told_result`: `told_height_lem` to `told_steps_lem`). No number of an operation is 0, and a struct of a refusal has its number and place in it, a load's also
-- its table, by a number that names one table (`finding_told_lem`): so nothing is told twice or not at all. That is shown once, over any kind
-- of answer (`tells`), and each field of `for_c` is a use of it with the operation's numbers from NumbersNamed. A question about rows opens
-- its table first, so its numbers are the opening's and its own (`on_table_lem`, `rectangle_under_lem`, `judged_numbers`).
use mathlib.Core.Path.{◌≡◌, refl, sym, ap, ◌∙◌}
use mathlib.Core.Logic.{inl, inr, ⊎_elim}
use mathlib.Core.Bool.{true, false, cond}
use mathlib.Core.List.{List, ◌++◌}
use Prim.Native.Nat.{ℕ}
use Rattle.std.specs.Prelude.{Option, Some, None, Result, Ok, Err}
use lib.Dec.{eqb}
use Rattle.laws.proofs.TestLaws.{clash}
use Rattle.refusal.specs.declared.Refusal.{Refusal}
use Rattle.refusal.specs.Order.{refusal}
use Rattle.wave.specs.declared.Judgement.{Judgement}
use Rattle.wave.specs.declared.Judgement.TheVariants.{Passes, TooHigh}
use Rattle.wave.specs.Height.{Height, height_of}
use Rattle.wave.specs.Judgement.{Compared, judgement_of}
use Rattle.triplet.specs.Triplet.{Reading, triplet_of}
use Rattle.triplet.specs.Written.{Written, written_of}
use Rattle.header.specs.declared.Definition.{Definition}
use Rattle.header.specs.declared.Header.{Header}
use Rattle.header.specs.Layouts.{header_of}
use Rattle.header.specs.Steps.{Step, step_of}
use Rattle.opening.specs.declared.Opened.{Opened}
use Rattle.opening.specs.declared.Table.{Table}
use Rattle.limits.specs.Limits.{most_rows}
use Rattle.opening.specs.Opening.{opened_of}
use Rattle.table.specs.declared.Value.{Value}
use Rattle.table.specs.declared.Value.TheVariants as value
use Rattle.table.specs.Rows.{rows_refusal, Row, row_of}
use Rattle.table.specs.Values.{ValueRead, value_of}
use Rattle.rectangle.specs.Rectangles.{rectangle_of, refused_with}
use Rattle.rectangle.specs.Rectangles as rectangle
use Rattle.load.specs.declared.TableName.{TableName}
use Rattle.load.specs.declared.TableName.TheVariants.{Edg, Fac, Rng, Cnd}
use Rattle.load.specs.declared.Finding.{Finding}
use Rattle.load.specs.Load.{Loaded, load_of}
use Rattle.tile.specs.Check.{Verdict, verdict_of}
use Rattle.tile.specs.Walk.{Walked, walk_of}
use Rattle.abi.specs.declared.PlainVerdict.{PlainVerdict}
use Rattle.abi.specs.declared.PlainSteps.{PlainSteps}
use Rattle.abi.specs.declared.PlainHeight.{PlainHeight}
use Rattle.abi.specs.declared.PlainJudgement.{PlainJudgement}
use Rattle.abi.specs.declared.PlainTriplet.{PlainTriplet}
use Rattle.abi.specs.declared.PlainWritten.{PlainWritten}
use Rattle.abi.specs.declared.PlainHeader.{PlainHeader}
use Rattle.abi.specs.declared.PlainColumn.{PlainColumn}
use Rattle.abi.specs.declared.PlainTable.{PlainTable}
use Rattle.abi.specs.declared.PlainRow.{PlainRow}
use Rattle.abi.specs.declared.PlainValue.{PlainValue}
use Rattle.abi.specs.declared.PlainRectangle.{PlainRectangle}
use Rattle.abi.specs.declared.PlainLoaded.{PlainLoaded}
use Rattle.abi.specs.Plain.{plain_verdict, plain_steps, plain_height, plain_judgement, plain_triplet, plain_written}
use Rattle.abi.specs.PlainTables.{plain_header, plain_table, on_table, plain_row, row_in, judged}
use Rattle.abi.specs.PlainTables.{plain_value, value_in, plain_rectangle, rectangle_under, rectangle_in}
use Rattle.abi.specs.PlainColumns.{plain_column}
use Rattle.abi.specs.PlainLoads.{table_number, plain_loaded}
use Rattle.demands.specs.Numbers.{Among, of_wave, of_triplet, of_writing, of_header, of_step, of_opening, of_row, of_value}
use Rattle.demands.specs.Numbers.{of_rectangle, of_load, of_check, of_walk}
use Rattle.demands.specs.ForC.{Tells, ForC, told_height, told_judgement, told_triplet, told_written, told_header}
use Rattle.demands.specs.ForC.{told_column, told_table, told_row, told_value, told_rectangle, told_load, told_verdict, told_steps}
use Rattle.demands.proofs.NumberLists.{has, has_all, also, none_zero}
use Rattle.demands.proofs.NumbersNamed.{Refuses, unless_listed}
use Rattle.demands.proofs.NumbersNamed as numbers

-- an answer and its struct; refusals that are one answer, or one struct, are one
data Told {A P Q : Type 0} (refused : Q → A) (told : Q → P) (number : P → ℕ) (a : A) (s : P) : Type 0 where
  answers : number s ≡ 0 → ((q : Q) → a ≡ refused q → ⊥) → Told refused told number a s
  refuses : (q : Q) → a ≡ refused q → s ≡ told q → ((p : Q) → refused q ≡ refused p → q ≡ p) → ((p : Q) → told q ≡ told p → q ≡ p)
      → Told refused told number a s

tells : {A P Q : Type 0} {refused : Q → A} {told : Q → P} {number : P → ℕ} {a : A} {s : P} → Told refused told number a s
    → (l : List ℕ) → has l 0 ≡ false → ((q : Q) → a ≡ refused q → Among l (number (told q))) → Tells refused told number l a s
tells {told = told} {number = number} (answers z none_refused) l t listed = record {
  none = ((λ e. none_refused), (λ n. z));
  some = λ q. ((λ e. absurd (none_refused q e)), (λ w. absurd (none_zero l t (number (told q)) (sym (ap number w.0) ∙ z) w.1)));
}
tells {refused = refused} {told = told} {number = number} (refuses p e f one_answer one_struct) l t listed = record {
  none = ((λ z. absurd (none_zero l t (number (told p)) (sym (ap number f) ∙ z) (listed p e))), (λ n. absurd (n p e)));
  some = λ q. ((λ g. (f ∙ ap told (one_answer q (sym e ∙ g)), listed q g)), (λ w. e ∙ ap refused (one_struct q (sym f ∙ w.0))));
}

-- of a Result: an Ok's struct has number 0, and from an Err's its refusal is read back
told_result : {T Q P : Type 0} (plain : Result T Q → P) (told : Q → P) (number : P → ℕ) (back : P → Q)
    → ((x : T) → number (plain (Ok x)) ≡ 0) → ((q : Q) → plain (Err q) ≡ told q) → ((q : Q) → back (told q) ≡ q)
    → (a : Result T Q) → Told Err told number a (plain a)
told_result plain told number back fine refused read (Ok x) = answers (fine x) (λ q e. clash (cc))
told_result plain told number back fine refused read (Err q) =
    refuses q refl (refused q) (λ p e. cc) (λ p e. sym (read q) ∙ ap back e ∙ read p)

-- ---- each kind of answer

told_height_lem : (a : Height) → Told Err told_height (λ (s : PlainHeight). s.number) a (plain_height a)
told_height_lem = told_result plain_height told_height (λ s. s.number) (λ s. refusal s.number s.place) (λ v. refl) (λ q. refl) (λ q. refl)

judged_zero : (j : Judgement) → (plain_judgement (Ok j)).number ≡ 0
judged_zero Passes = refl
judged_zero TooHigh = refl

told_judgement_lem : (a : Compared) → Told Err told_judgement (λ (s : PlainJudgement). s.number) a (plain_judgement a)
told_judgement_lem = told_result plain_judgement told_judgement (λ s. s.number) (λ s. refusal s.number s.place) judged_zero (λ q. refl) (λ q. refl)

told_triplet_lem : (a : Reading) → Told Err told_triplet (λ (s : PlainTriplet). s.number) a (plain_triplet a)
told_triplet_lem = told_result plain_triplet told_triplet (λ s. s.number) (λ s. refusal s.number s.place) (λ t. refl) (λ q. refl) (λ q. refl)

told_written_lem : (a : Written) → Told Err told_written (λ (s : PlainWritten). s.number) a (plain_written a)
told_written_lem = told_result plain_written told_written (λ s. s.number) (λ s. refusal s.number s.place) (λ n. refl) (λ q. refl) (λ q. refl)

told_header_lem : (a : Result Header Refusal) → Told Err told_header (λ (s : PlainHeader). s.number) a (plain_header a)
told_header_lem = told_result plain_header told_header (λ s. s.number) (λ s. refusal s.number s.place) (λ h. refl) (λ q. refl) (λ q. refl)

step_zero : (d : Option Definition) → (plain_column (Ok d)).number ≡ 0
step_zero (Some d) = refl
step_zero None = refl

told_column_lem : (a : Step) → Told Err told_column (λ (s : PlainColumn). s.number) a (plain_column a)
told_column_lem = told_result plain_column told_column (λ s. s.number) (λ s. refusal s.number s.place) step_zero (λ q. refl) (λ q. refl)

told_table_lem : (a : Result Opened Refusal) → Told Err told_table (λ (s : PlainTable). s.number) a (plain_table a)
told_table_lem = told_result plain_table told_table (λ s. s.number) (λ s. refusal s.number s.place) (λ o. refl) (λ q. refl) (λ q. refl)

told_row_lem : (a : Row) → Told Err told_row (λ (s : PlainRow). s.number) a (plain_row a)
told_row_lem = told_result plain_row told_row (λ s. s.number) (λ s. refusal s.number s.place) (λ lies. refl) (λ q. refl) (λ q. refl)

value_zero : (v : Value) → (plain_value (Ok v)).number ≡ 0
value_zero (value.Short (Some v)) = refl
value_zero (value.Short None) = refl
value_zero (value.Integer (Some v)) = refl
value_zero (value.Integer None) = refl
value_zero (value.Float b) = refl
value_zero (value.FloatNull b) = refl
value_zero (value.Double b) = refl
value_zero (value.DoubleNull b) = refl
value_zero (value.Triplet ids) = refl
value_zero (value.Text e) = refl
value_zero (value.Date e) = refl
value_zero (value.Coordinates e) = refl
value_zero value.Empty = refl

told_value_lem : (a : ValueRead) → Told Err told_value (λ (s : PlainValue). s.number) a (plain_value a)
told_value_lem = told_result plain_value told_value (λ s. s.number) (λ s. refusal s.number s.place) value_zero (λ q. refl) (λ q. refl)

told_rectangle_lem : (a : rectangle.Answer) → Told refused_with told_rectangle (λ (s : PlainRectangle). s.number) a (plain_rectangle a)
told_rectangle_lem (rectangle.short r) = answers refl (λ q e. clash (cc))
told_rectangle_lem (rectangle.double r) = answers refl (λ q e. clash (cc))
told_rectangle_lem (rectangle.refused_with q) = refuses q refl refl (λ p e. cc) (λ p e. ap (λ (s : PlainRectangle). refusal s.number s.place) e)

-- a table's number names one table
abbrev table_of_number : ℕ → TableName
table_of_number n = cond (eqb n 1) Edg (cond (eqb n 2) Fac (cond (eqb n 3) Rng Cnd))

number_names : (n : TableName) → table_of_number (table_number n) ≡ n
number_names Edg = refl
number_names Fac = refl
number_names Rng = refl
number_names Cnd = refl

abbrev finding_told : PlainLoaded → Finding
finding_told s = record { table = table_of_number s.table; refusal = refusal s.number s.place }

finding_told_lem : (q : Finding) → finding_told (told_load q) ≡ q
finding_told_lem q = ap (λ (n : TableName). record { table = n; refusal = q.refusal }) (number_names q.table)

told_load_lem : (a : Loaded) → Told Err told_load (λ (s : PlainLoaded). s.number) a (plain_loaded a)
told_load_lem = told_result plain_loaded told_load (λ s. s.number) finding_told (λ c. refl) (λ q. refl) finding_told_lem

told_verdict_lem : (a : Verdict) → Told Err told_verdict (λ (s : PlainVerdict). s.number) a (plain_verdict a)
told_verdict_lem = told_result plain_verdict told_verdict (λ s. s.number) (λ s. refusal s.number s.place) (λ done. refl) (λ q. refl) (λ q. refl)

told_steps_lem : (a : Walked) → Told Err told_steps (λ (s : PlainSteps). s.number) a (plain_steps a)
told_steps_lem = told_result plain_steps told_steps (λ s. s.number) (λ s. refusal s.number s.place) (λ k. refl) (λ q. refl) (λ q. refl)

-- ---- questions that open their table first: the opening's numbers or their own

module _ (file index : List ℕ) where
  abbrev table : Result Opened Refusal
  table = opened_of file index most_rows

  opening_also : (l : List ℕ) → has_all l of_opening ≡ true → (q : Refusal) → table ≡ Err q → Among l q.number
  opening_also l h q e = also of_opening l q.number h (numbers.opening_numbers file index most_rows q e)

  -- a row or a value
  on_table_lem : {A : Type 0} (ask : Table → Result A Refusal) → ((t : Table) → Refuses of_value (ask t))
      → (o : Result Opened Refusal) → table ≡ o → Refuses (of_value ++ of_opening) (on_table o ask)
  on_table_lem ask own (Ok o) e q u = also of_value (of_value ++ of_opening) q.number refl (own o.table q u)
  on_table_lem ask own (Err p) e q u = let v : p ≡ q = cc in opening_also (of_value ++ of_opening) refl q (e ∙ ap Err v)

  rectangle_under_lem : (ask : Table → rectangle.Answer) → ((t : Table) (q : Refusal) → ask t ≡ refused_with q → Among of_rectangle q.number)
      → (o : Result Opened Refusal) → table ≡ o → (q : Refusal) → rectangle_under o ask ≡ refused_with q
      → Among (of_rectangle ++ of_opening) q.number
  rectangle_under_lem ask own (Ok o) e q u = also of_rectangle (of_rectangle ++ of_opening) q.number refl (own o.table q u)
  rectangle_under_lem ask own (Err p) e q u = let v : p ≡ q = cc in opening_also (of_rectangle ++ of_opening) refl q (e ∙ ap Err v)

  row_in_numbers : (i : ℕ) → Refuses (of_value ++ of_opening) (row_in file index i)
  unfolding row_in
  row_in_numbers i = on_table_lem (λ t. row_of file index t i) (λ t. numbers.row_numbers file index t i) table refl

  value_in_numbers : (i k : ℕ) → Refuses (of_value ++ of_opening) (value_in file index i k)
  unfolding value_in
  value_in_numbers i k = on_table_lem (λ t. value_of file index t i k) (λ t. numbers.value_numbers file index t i k) table refl

  rectangle_in_numbers : (i k : ℕ) (q : Refusal) → rectangle_in file index i k ≡ refused_with q → Among (of_rectangle ++ of_opening) q.number
  unfolding rectangle_in
  rectangle_in_numbers i k q e =
      rectangle_under_lem (λ t. rectangle_of file index t i k) (λ t. numbers.rectangle_numbers file index t i k) table refl q e

  -- every row judged
  judged_numbers : (o : Result Opened Refusal) → table ≡ o → Refuses (of_row ++ of_opening) (judged file index o)
  judged_numbers (Ok o) e =
      let r = rows_refusal file index o.table in
      unless_listed (of_row ++ of_opening) r o
      (⊎_elim inl (λ h. inr (also of_row (of_row ++ of_opening) r.number refl h)) (numbers.judge_rows_numbers file index o.table))
  judged_numbers (Err p) e = λ q u. let v : p ≡ q = cc in opening_also (of_row ++ of_opening) refl q (e ∙ ap Err v)

-- ---- THE OPERATIONS

pub for_c : ForC
for_c = record {
  height = λ text. tells (told_height_lem (height_of text)) of_wave refl (numbers.wave_numbers text);
  passes = λ measured limit. tells (told_judgement_lem (judgement_of measured limit)) of_wave refl (numbers.judgement_numbers measured limit);
  triplet = λ o bytes. tells (told_triplet_lem (triplet_of o bytes)) of_triplet refl (numbers.triplet_numbers o bytes);
  write_triplet = λ len at t. tells (told_written_lem (written_of len at t)) of_writing refl (numbers.write_numbers len at t);
  header = λ file. tells (told_header_lem (header_of file)) of_header refl (numbers.header_numbers file);
  column_step = λ file place. tells (told_column_lem (step_of file place)) of_step refl (numbers.step_numbers file place);
  open_table = λ file index.
      tells (told_table_lem (table file index)) of_opening refl (numbers.opening_numbers file index most_rows);
  judge_rows = λ file index.
      tells (told_table_lem (judged file index (table file index))) (of_row ++ of_opening) refl
      (judged_numbers file index (table file index) refl);
  row = λ file index i. tells (told_row_lem (row_in file index i)) (of_value ++ of_opening) refl (row_in_numbers file index i);
  value = λ file index i k. tells (told_value_lem (value_in file index i k)) (of_value ++ of_opening) refl (value_in_numbers file index i k);
  rectangle = λ file index i k.
      tells (told_rectangle_lem (rectangle_in file index i k)) (of_rectangle ++ of_opening) refl (rectangle_in_numbers file index i k);
  load = λ f most lengths. tells (told_load_lem (load_of f most lengths)) of_load refl (numbers.load_numbers f most lengths);
  check = λ t space. tells (told_verdict_lem (verdict_of t space)) of_check refl (numbers.check_numbers t space);
  walk = λ t r space. tells (told_steps_lem (walk_of t r space)) of_walk refl (numbers.walk_numbers t r space);
}
