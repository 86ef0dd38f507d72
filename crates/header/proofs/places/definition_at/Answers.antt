use Rattle.header.proofs.PlaceLaws.{defined}
use Rattle.header.proofs.places.definition_at.Goals as goal

pub returns : goal.returns
returns c =
    defined c.args.head.now c.args.p c.seek_byte-name_end.result c.seek_byte-count_end.result c.seek_byte-description_end.result
    c.seek_byte-value_end.result c.seek_byte-thematic_end.result c.seek_byte-colon.result c.last_end-narrative_end.result
    c.seek_byte-name_end.ensures.value c.seek_byte-count_end.ensures.value c.seek_byte-description_end.ensures.value c.seek_byte-value_end.ensures.value
    c.seek_byte-thematic_end.ensures.value c.seek_byte-colon.ensures.value c.last_end-narrative_end.ensures
    c.byte_at.result c.byte_at-2.result c.count_of-count.result c.byte_at-3.result c.byte_at.ensures c.byte_at-2.ensures
    c.count_of-count.ensures c.byte_at-3.ensures
