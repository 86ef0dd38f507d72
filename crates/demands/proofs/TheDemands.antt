-- THE THREE DEMANDS HOLD. The statements stand in full in specs/Demand1.antt, Demand2.antt and Demand3.antt; here the theorem that answers
-- each is cited.
--
-- The plan. Demand 1 is NumbersNamed (which numbers), BuffersKept (which buffers) and StructsTell (the structs for C), field by field.
-- Demand 2 cites the theorems in words of each crate. Demand 3 of a tile is `demand3` of crate `tile`; of a directory it takes some steps.
-- An accepted directory has no file too large, loads with its counts, and its tile has all facts (`in_words`); so the load answered the
-- counts (`load-answered`), the check accepts that tile, `demand3` speaks of its walks, and the sum of 2E is 2 times the counted edges
-- (`walked`). The program's own marks and output have room for two sides to each of the rows that it takes (`edges_few`), and no ring's
-- list is longer than 2E (`list_few`): so every walk is answered, and the text has the lists' lengths and the sum (`text_told`).
use mathlib.Core.Path.{◌≡◌, refl, sym, ap, subst, ◌∙◌}
use mathlib.Core.Logic.{◌↔◌}
use mathlib.Core.Bool.{true}
use mathlib.Core.List.{List}
use Prim.Native.Nat.{ℕ, ◌*◌, ◌≤◌, ◌<◌}
use Rattle.std.specs.Prelude.{Result, Ok, Err}
use native.Mathlib.Omega.{arith}
use borrow.Author.Tests.{lt-ltb, ltb-true}
use lib.Ieee.{Format}
use lib.ListN.{length, replicate, length-replicate}
use Rattle.laws.specs.Lowest.{In, lowest}
use Rattle.laws.proofs.BufferLaws.{length-listed}
use Rattle.laws.proofs.SumLaws.{sum_part}
use Rattle.laws.proofs.TestLaws.{clash}
use Rattle.refusal.specs.declared.Refusal.{Refusal}
use Rattle.triplet.proofs.ReadExactly as triplet
use Rattle.triplet.proofs.WrittenExactly as written
use Rattle.triplet.proofs.RoundTrip.{row_round_trip}
use Rattle.triplet.proofs.ShortestForm.{none_shorter}
use Rattle.triplet.proofs.OtherBytes.{no_other_byte, same_length}
use Rattle.wave.proofs.Exact as wave
use Rattle.wave.proofs.Verdict as judged
use Rattle.grammar.specs.Words.{Reading}
use Rattle.grammar.proofs.AmendedGrammar.{amended}
use Rattle.header.specs.Words.{AcceptedHeader}
use Rattle.header.proofs.JudgeLaws.{given}
use Rattle.header.proofs.HeaderLaws.{given_header}
use Rattle.header.proofs.AcceptedExactly as accepted
use Rattle.header.proofs.RefusedExactly as refused
use Rattle.header.proofs.LayoutMeans.{laid_out_lem, refused_no_layout}
use Rattle.header.proofs.ColumnOfName.{column_of-name, column_of-name_only, refused_no_column}
use Rattle.header.specs.LayoutWords.{layout_at, ShowsK}
use Rattle.header.proofs.TripletShown.{lowest_triplet_exactly}
use Rattle.header.proofs.StepsInOrder as steps
use Rattle.reader.proofs.ReaderInOrder as reader
use Rattle.header.specs.declared.Header.{Header}
use Rattle.header.specs.Layouts.{layout_of, handed_on, header_of}
use Rattle.opening.specs.declared.Opened.{Opened}
use Rattle.opening.specs.Opening.{table_refusal, opened, opened_of}
use Rattle.opening.specs.Words.{Opens}
use Rattle.opening.proofs.OpenedExactly as opening
use Rattle.table.specs.Rows.{column_at, columns_of}
use Rattle.table.proofs.RowsPartition.{rows_partition, row_lies}
use Rattle.table.proofs.RowExactly.{row_of_exactly}
use Rattle.table.proofs.RowRefusedExactly.{row_of_refused_exactly}
use Rattle.table.proofs.ValueOfRow.{value_of_own_bytes, column_placed}
use Rattle.table.proofs.ValueRefusedExactly.{row_13_exactly, value_refused_exactly}
use Rattle.rectangle.proofs.RectangleExactly as rectangle
use Rattle.bounds.specs.declared.Parts.{Parts}
use Rattle.bounds.specs.Bounds.{count}
use Rattle.rectangle.specs.Words.{type_with, coordinates_said, line}
use Rattle.rectangle.proofs.CoordinatesCounted.{coordinates_counted}
use Rattle.load.specs.declared.Counts.{Counts}
use Rattle.load.specs.Load.{load_of}
use Rattle.load.proofs.LoadedExactly as load
use Rattle.load.proofs.WhatIsWritten.{element_is_value, rest_as_it_was}
use Rattle.refusal.specs.declared.Kind.TheVariants.{EdgeOutOfRange}
use Rattle.refusal.specs.Kinds.{number_of}
use Rattle.side.specs.Edges.{Edges}
use Rattle.side.specs.Successor.{Fault}
use Rattle.side.proofs.SuccessorExactly as successor
use Rattle.facts.proofs.AcceptedExactly as check
use Rattle.facts.proofs.RefusedExactly as tile
use Rattle.facts.proofs.DemandThree.{demand3}
use Rattle.load.specs.declared.TableName.TheVariants.{Edg}
use Rattle.tile.specs.Columns.{Tile, R, sides}
use Rattle.tile.specs.Walk.{walk_of, steps_of, all_steps, side_after, ring_steps, ring_sides}
use Rattle.facts.specs.Demand.{Demand3 as Walked}
use Rattle.facts.proofs.StartExactly.{start_side_exactly, start_zero_exactly}
use Rattle.facts.proofs.WalkExactly as walk
use Rattle.directory.specs.declared.Sizes.{Sizes}
use Rattle.limits.specs.Limits.{program_rows, program_sides}
use Rattle.directory.specs.Files.{triplet_column, has_triplet, head_shows_triplet, shows_triplet}
use Rattle.report.specs.Lines.{refuse_line}
use Rattle.directory.specs.declared.Named.{Named}
use Rattle.directory.specs.Files.{Directory, AtFault, cnx_read, files_read}
use Rattle.directory.specs.Outcome.{tile_said, loaded_as, unless_at_fault, loaded_of, outcome_of}
use Rattle.directory.specs.Words.{AcceptedWith}
use Rattle.directory.proofs.OutcomeLaws.{held_said, loaded_checked}
use Rattle.directory.proofs.SizesInWords.{sizes_exactly}
use Rattle.directory.proofs.VerdictOfTile as directory
use Rattle.teller.specs.Text.{own_columns, accepted_text, text_of}
use Rattle.demands.specs.Demand1.{Demand1}
use Rattle.demands.specs.Demand2.{ColumnsMean, table_with, RowRight, SuccessorMeans, WalkMeans, DirectoryMeans, Demand2}
use Rattle.demands.specs.Demand3.{DirectoryWalked, TextTold, Demand3}
use Rattle.demands.specs.Demands.{Demands}
use Rattle.demands.proofs.NumbersNamed as numbers
use Rattle.demands.proofs.BuffersKept as buffers
use Rattle.demands.proofs.StructsTell.{for_c}

-- ======== DEMAND 1

pub demand_1 : Demand1
demand_1 = record {
  wave_numbers = numbers.wave_numbers;
  judgement_numbers = numbers.judgement_numbers;
  triplet_numbers = numbers.triplet_numbers;
  header_numbers = numbers.header_numbers;
  step_numbers = numbers.step_numbers;
  reader_numbers = numbers.reader_numbers;
  opening_numbers = numbers.opening_numbers;
  judge_row_numbers = numbers.judge_row_numbers;
  judge_rows_numbers = numbers.judge_rows_numbers;
  row_numbers = numbers.row_numbers;
  value_numbers = numbers.value_numbers;
  bounds_numbers = numbers.bounds_numbers;
  rectangle_numbers = numbers.rectangle_numbers;
  successor_numbers = numbers.successor_numbers;
  write_numbers = numbers.write_numbers;
  write_unchanged = buffers.write_unchanged;
  load_numbers = numbers.load_numbers;
  load_unchanged = buffers.load_unchanged;
  check_numbers = numbers.check_numbers;
  check_unchanged = buffers.check_unchanged;
  check_zeroed = buffers.check_zeroed;
  walk_numbers = numbers.walk_numbers;
  walk_unchanged = buffers.walk_unchanged;
  directory-load_numbers = numbers.directory-load_numbers;
  directory-load_unchanged = buffers.directory-load_unchanged;
  directory_check_numbers = buffers.directory_check_numbers;
  directory_check_unchanged = buffers.directory_check_unchanged;
  directory_check_zeroed = buffers.directory_check_zeroed;
  directory_numbers = buffers.directory_numbers;
  for_c = for_c;
}

-- ======== DEMAND 2

-- an accepted header with its reading
columns_mean : (file : List ℕ) (h : Reading) → AcceptedHeader file h → ColumnsMean file h
columns_mean file h a =
    record {
      layout = laid_out_lem file h a;
      named = column_of-name file h a;
      named_once = column_of-name_only file h a;
      starts = steps.start-place file h a;
      gives = steps.steps_give_columns file h a;
      moves_past = steps.steps_move_past file h a;
      ends = steps.steps_end file h a;
      elsewhere = λ place none.
          steps.step_elsewhere file h a place (λ k l e. none k l (e ∙ sym (steps.place_after_steps file h a k l)));
    }

-- a table is handed on exactly when it opens
opened_exactly : (file index : List ℕ) (most : ℕ)
    → ((o : Opened) × (opened_of file index most ≡ Ok o)) ↔ ((h : Reading) × (n : ℕ) × Opens file index most h n)
unfolding opened_of
opened_exactly file index most = (
  λ w. (opening.opened_exactly file index most).0 (given (table_refusal file index most) (opened file index) w.0 w.1).0,
  λ w. (opened file index, (opening.answer_opened_exactly file index most).1 w),
)

-- the coordinates of a field, at the place where the fields before it end
module _ (file index : List ℕ) (most : ℕ) (h : Reading) (n : ℕ) (o : Opens file index most h n) (i : ℕ) (r : In n i) where
  coordinates_of_field : (right : RowRight file index i) (k : ℕ) → In (layout_of file).columns k
      → (f : Format) (p : Parts) → (column_at (layout_of file) k).kind ≡ type_with f p
      → count (line file index (table_with file n) i k f p) ≡ coordinates_said (layout_of file).order file
      (layout_at (layout_of file) k) (right.place k)
  coordinates_of_field right k c f p e =
      coordinates_counted file index most h n o i r right k c f p e
      ∙ ap (coordinates_said (layout_of file).order file (layout_at (layout_of file) k))
      (column_placed file index most h n o i r right.place right.fields right.id k c)

successor_means : (t : Edges) (s : ℕ) → SuccessorMeans t s
successor_means t s =
    record {
      is = λ u. (successor.successor_follows t s u, successor.follows_successor t s u);
      wrong = λ n l. (
        λ w. subst (Fault t s) w.1 (successor.wrong_fault t s w.0 l w.2),
        successor.fault_answer t s n l,
      );
      no_link = (
        λ w l. let b = successor.fault_number t s (number_of w.0) (successor.wrong_fault t s w.0 l w.2) in omega (arith, b.0, w.1),
        λ none. (EdgeOutOfRange, refl, successor.link_wrong t s none),
      );
    }

walk_means : (t : Tile) (r : ℕ) → WalkMeans t r
walk_means t r =
    record {
      start = start_side_exactly t r;
      start_zero = start_zero_exactly t r;
      refused = walk.walk_refused_exactly t r;
      answered = walk.walk_answered_exactly t r;
      first_return = walk.steps_are_first_return t r;
      writes = walk.walk_writes t r;
    }

-- "once cnd's header is accepted and shows K": a header that is given has a column of that type, and a refused one has none
triplet_shown : (r : Result Header Refusal)
    → (head_shows_triplet r ≡ true) ↔ ((head : Header) × (r ≡ Ok head) × (0 < lowest (triplet_column head.layout) (columns_of head.layout)))
unfolding has_triplet
triplet_shown (Ok head) = (
  λ e. (head, refl, ltb-true 0 _ e),
  λ w. let v : head ≡ w.0 = cc in lt-ltb 0 _
      (subst (λ (x : Header). 0 < lowest (triplet_column x.layout) (columns_of x.layout)) (sym v) w.2),
)
triplet_shown (Err q) = (λ e. clash (cc), λ w. let no = w.1 in clash (cc))

cnx_read_exactly : (d : Directory) → (cnx_read d ≡ true) ↔ ShowsK d.cnd
unfolding shows_triplet
cnx_read_exactly d = (
  λ e. (lowest_triplet_exactly d.cnd).0 ((triplet_shown (header_of d.cnd)).0 e),
  λ w. (triplet_shown (header_of d.cnd)).1 ((lowest_triplet_exactly d.cnd).1 w),
)

-- what is written of a refused directory
refused_text : (z : Sizes) (d : Directory) (w : Named) → outcome_of z d own_columns program_sides ≡ Err w
    → text_of z d ≡ refuse_line w.file w.refusal
unfolding text_of
refused_text z d w e = rw e refl

directories_mean : (z : Sizes) (d : Directory) (lengths : List ℕ) (space : ℕ) → DirectoryMeans z d lengths space
directories_mean z d lengths space =
    record {
      accepted = directory.accepted_exactly z d lengths space;
      refused = directory.refused_exactly_when z d lengths space;
      reads_cnx = cnx_read_exactly d;
    }

pub demand_2 : Demand2
demand_2 = record {
  headers = λ file. record {
    accepted = (
      λ w. (accepted.accepted_exactly file).0 (given_header file w.0 w.1).0,
      λ w. (handed_on file, (accepted.answer_accepted_exactly file).1 w),
    );
    hands_on = λ head e. (given_header file head e).1;
    one_reading = accepted.accepted_once file;
    refused = refused.answer_refused_exactly file;
  };
  amended = amended;
  columns = columns_mean;
  no_columns = λ file n p w. record {
    layout = refused_no_layout file n p w;
    named = λ name. refused_no_column file name n p w;
    starts = steps.refused_start file n p w;
    gives = steps.refused_everywhere file n p w;
  };
  readers = λ file h a. record {
    starts = reader.starts_at_first file h a;
    gives-columns = reader.columns_in_order file h a;
    then_done = reader.then_done file h a;
    one_definition = reader.one_definition file h a;
    elsewhere = reader.elsewhere file h a;
  };
  readers_refused = reader.refused-first;
  tables = λ file index most. record {
    opened = opened_exactly file index most;
    one_table = opening.opened_once file index most;
    as_opened = opening.opened_table file index most;
    refused = opening.answer_refused_exactly file index most;
    rows = rows_partition file index most;
  };
  rows = λ file index most h n o i r. record {
    lies = row_lies file index most h n o i r;
    accepted = row_of_exactly file index most h n o i r;
    refused = row_of_refused_exactly file index most h n o i r;
    values = λ right. value_of_own_bytes file index most h n o i r right.place right.fields right.id;
    coordinates = coordinates_of_field file index most h n o i r;
  };
  values = λ file index t i k. record {
    no_row = row_13_exactly file index t i;
    refused = value_refused_exactly file index t i k;
  };
  rectangles = λ file index t i k. record {
    found = rectangle.rectangle_exactly file index t i k;
    refused = rectangle.refused-exactly file index t i k;
  };
  triplets = λ o. record {
    read = triplet.read_exactly o;
    refused = triplet.refused-exactly o;
    is-written = written.written_exactly;
    is_not_written = written.not_written_exactly;
    read_back = row_round_trip o;
    shortest = none_shorter o;
    no_other_byte = no_other_byte o;
    same_length = same_length o;
  };
  waves = λ text. record {
    read = wave.accepted_exactly text;
    one_value = wave.one_value text;
    refused = wave.refused-exactly text;
  };
  limits = λ measured limit. record {
    passes = judged.passes_exactly measured limit;
    too_high = judged.too_high_exactly measured limit;
    refused = judged.refused-exactly measured limit;
  };
  loading = λ f most lengths. record {
    is-loaded = load.loaded_exactly f most lengths;
    refused = load.refused-exactly f most lengths;
    element = element_is_value f most lengths;
    rest = rest_as_it_was f most lengths;
  };
  tiles = λ t space. record {
    accepted = (check.accepted t space, check.facts_accepted t space);
    refused = λ n p. (tile.refused t space n p, tile.words_refused t space n p);
    successors = successor_means t.edg;
    walks = walk_means t;
  };
  directories = directories_mean;
  texts = λ z d. record { refused = refused_text z d };
}

-- ======== DEMAND 3

-- no ring's list is longer than all of them together
list_few : (t : Tile) (marks : List ℕ) → Walked t marks → (r : ℕ) → In (R t) r → length (ring_sides t r) ≤ sides t
list_few t marks w r i =
    omega (arith, length-listed (side_after t r) (ring_steps t r), sum_part (ring_steps t) (R t) r i.0 i.1, w.lists_add_up)

-- an accepted directory: what its stages left
module _ (z : Sizes) (d : Directory) (lengths marks : List ℕ) (c : Counts) (e : outcome_of z d lengths (length marks) ≡ Ok c) where
  abbrev t : Tile
  t = tile_said (files_read d)

  in_words : AcceptedWith z d lengths (length marks) c
  in_words = (directory.accepted_exactly z d lengths (length marks) c).0 e

  load-answered : loaded_of z d lengths ≡ Ok c
  unfolding loaded_of
  load-answered =
      ap (λ (x : AtFault). unless_at_fault x (loaded_as (cnx_read d) (load_of (files_read d) program_rows lengths)))
      ((sizes_exactly z d).1 in_words.sizes)
      ∙ ap (loaded_as (cnx_read d)) ((load.loaded_exactly (files_read d) program_rows lengths c).1 in_words.loads)

  walked : DirectoryWalked z d lengths marks c
  walked =
      let a = check.facts_accepted t (length marks) in_words.facts in
      let h = in_words.loads in
      let edges = directory.counts-edges (files_read d) lengths c h in
      let rings = directory.counts_rings (files_read d) lengths c h in
      let w = demand3 t marks a in
      record {
        accepted = a;
        counts-edges = edges;
        counts-faces = directory.counts-faces (files_read d) lengths c h;
        counts_rings = rings;
        counts-nodes = directory.counts-nodes (files_read d) lengths c h;
        loads = load-answered;
        columns = held_said z d lengths c load-answered;
        checks = λ l. loaded_checked z d lengths c load-answered l (length marks) ∙ e;
        walks = w;
        reported = λ space h.
            let twice : sides t ≡ 2 * c.edges = ap (λ (n : ℕ). 2 * n) edges in
            ap (all_steps t space) (sym rings) ∙ w.adds_up space (rw twice h) ∙ twice;
      }

  edges_few : c.edges ≤ program_rows
  edges_few = (in_words.loads.opens Edg).1.as_asked

-- its text: the program's own marks are as long as two sides to an edge ask
module _ (z : Sizes) (d : Directory) (c : Counts) (e : outcome_of z d own_columns program_sides ≡ Ok c) where
  abbrev marks : List ℕ
  marks = replicate program_sides 0

  with_marks : outcome_of z d own_columns (length marks) ≡ Ok c
  with_marks = let q : length marks ≡ program_sides = length-replicate {A = ℕ} program_sides 0 in rw q e

  abbrev w : DirectoryWalked z d own_columns marks c
  w = walked z d own_columns marks c with_marks

  text_told : TextTold z d c
  unfolding text_of accepted_text
  text_told =
      let f = files_read d in
      let few = edges_few z d own_columns marks c with_marks in
      record {
        text = rw (e, w.reported program_sides (omega (arith, few))) refl;
        ring_steps = λ r i.
            let j : In (R (tile_said f)) r = (i.0, omega (arith, i.1, w.counts_rings)) in
            let long : length marks ≡ program_sides = length-replicate {A = ℕ} program_sides 0 in
            let room : length (ring_sides (tile_said f) r) ≤ length marks =
            omega (arith, list_few (tile_said f) marks w.walks r j, few, w.counts-edges, long) in
            ap steps_of (ap (walk_of (tile_said f) r) (sym long) ∙ ((w.walks.walks r j).given_room marks room).0);
      }

pub demand_3 : Demand3
demand_3 = record { tiles = demand3; directories = walked; texts = text_told }

-- ======== ALL THREE

pub the_demands : Demands
the_demands = record { any_bytes = demand_1; meanings = demand_2; walks = demand_3 }
