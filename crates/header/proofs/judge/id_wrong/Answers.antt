use Rattle.header.proofs.GatherLaws.{id_unsound, id_elsewhere}
use Rattle.header.proofs.judge.id_wrong.Goals as goal

pub returns-then-not-id_sound : goal.returns-then-not-id_sound
returns-then-not-id_sound c =
    rw c.if-not-id_sound.true (id_unsound c.args.column c.args.keys.now c.args.n c.args.id _ c.id_sound.ensures c.if-not-id_sound.true)

pub returns-else-not-id_sound : goal.returns-else-not-id_sound
returns-else-not-id_sound c =
    id_elsewhere c.args.column c.args.keys.now c.args.n c.args.id _ c.id_sound.ensures c.key_elsewhere.result c.if-not-id_sound.false c.key_elsewhere.ensures
