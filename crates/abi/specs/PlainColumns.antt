-- One column of a header as plain numbers, for C.
use Rattle.std.specs.Prelude.{Bool, true, false, ℕ, Some, None, Ok, Err}
use Rattle.header.specs.declared.Definition.{Definition}
use Rattle.header.specs.Steps.{Step}
use Rattle.abi.specs.declared.PlainColumn.{PlainColumn}

abbrev pub one_if : Bool → ℕ
one_if true = 1
one_if false = 0

-- a column is given: where its fields lie, its type, count and key, "which form stood there", and the place after it
abbrev pub plain_definition : Definition → PlainColumn
plain_definition d =
    record {
      number = 0;
      place = 0;
      given = 1;
      name_start = d.name.start;
      name_end = d.name.end;
      kind = d.kind;
      star = one_if d.star;
      count = d.count;
      key = d.key;
      description_start = d.description.start;
      description_end = d.description.end;
      value_start = d.value.start;
      value_end = d.value.end;
      thematic_start = d.thematic.start;
      thematic_end = d.thematic.end;
      narrative_start = d.narrative.start;
      narrative_end = d.narrative.end;
      comma = one_if d.comma;
      after = d.after;
    }

-- none is given: the last has been passed (number 0), or the step is refused
abbrev pub no_column : ℕ → ℕ → PlainColumn
no_column number place =
    record {
      number = number;
      place = place;
      given = 0;
      name_start = 0;
      name_end = 0;
      kind = 0;
      star = 0;
      count = 0;
      key = 0;
      description_start = 0;
      description_end = 0;
      value_start = 0;
      value_end = 0;
      thematic_start = 0;
      thematic_end = 0;
      narrative_start = 0;
      narrative_end = 0;
      comma = 0;
      after = 0;
    }

abbrev pub plain_column : Step → PlainColumn
plain_column (Ok (Some d)) = plain_definition d
plain_column (Ok None) = no_column 0 0
plain_column (Err q) = no_column q.number q.place
