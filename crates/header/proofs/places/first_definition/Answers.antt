use Rattle.header.specs.Places.{first_place}
use Rattle.header.proofs.places.first_definition.Goals as goal

pub returns : goal.returns
unfolding first_place
returns c = simp (← c.seek_byte-narrative_end.ensures.value, ← c.seek_byte-description_end.ensures.value, ← c.seek_byte-letter_end.ensures.value)
