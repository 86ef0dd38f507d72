-- `teller::tell_rings` meets its contract: before each turn the text has the lines of the ring rows passed, and `all` is the sum of their steps.
use borrow.Author.Rules.{rules}
use Prim.Native.Nat.{◌≤◌, ◌+◌}
use mathlib.Core.Path.{◌≡◌, refl, ap, ◌∙◌}
use Rattle.laws.specs.Orbit.{entry}
use native.Mathlib.Omega.{arith}
use lib.ListN.{length}
use Rattle.report.proofs.LineFits.{accept_fits}
use Rattle.report.specs.Lines.{line_room, accept_line}
use Rattle.load.specs.Columns.{Columns}
use Rattle.directory.specs.Columns.{held}
use Rattle.tile.specs.Columns.{Tile}
use Rattle.directory.proofs.StepLaws.{steps_next, steps_few}
use Rattle.limits.specs.Limits.{program_sides}
use Rattle.teller.specs.Text.{ring_lines}
use Rattle.teller.proofs.TextLaws.{accept_bytes, accept_told, same_room, ring_face, ring_added, room_left, text_whole}
use Rattle.teller.proofs.tell_rings.Goals as goal
use Rattle.teller.proofs.tell_rings.Goals.{After-steps_of-steps, At-loop-i}

pub loop-i-init : goal.loop-i-init
loop-i-init c = (refl, refl, omega arith, omega arith, refl)

-- the columns as they were lent, and the tile at their front
abbrev lent : At-loop-i → Columns
lent c =
    c.args.columns.now

abbrev tile_of : At-loop-i → Tile
tile_of c = held c.args.counts (lent c)

-- before each turn, and after the last: the first line is its own text, the text is as long as it was, and has room for one more line
first_line : (c : At-loop-i) → c.accept_line-at.result ≡ length (accept_line c.args.counts)
first_line c =
    accept_bytes c.args.counts c.args.text.now c.requires.text_space_in_bounds.0 _ c.accept_line-at.ensures.value

same_space : (c : At-loop-i) → length c.loop-i.text ≡ length c.args.text.now
same_space c =
    same_room c.args.counts c.args.text.now c.requires.text_space_in_bounds.0 _ c.loop-i.text (ring_lines (tile_of c) c.loop-i.i)
    c.accept_line-at.result c.accept_line-at.ensures.out_after c.loop-i.invariant.4

room : (c : At-loop-i) → c.loop-i.at + line_room ≤ length c.loop-i.text
room c =
    omega (
      arith,
      room_left c.args.counts (lent c) c.requires.program_sides_value c.requires.text_space_in_bounds.1 c.requires.text_space_in_bounds.2 c.loop-i.i
          c.accept_line-at.result c.loop-i.at (omega (arith, c.loop-i.auto))
          (omega (arith, first_line c, accept_fits c.args.counts)) c.loop-i.invariant.3,
      same_space c,
      c.requires.text_space_in_bounds.0,
    )

pub add_ring-at-requires : goal.add_ring-at-requires
add_ring-at-requires c =
    room (goal.at.add_ring-at-requires c).At-loop-i

few : (c : After-steps_of-steps) → c.steps_of-steps.result ≤ length c.loop-i.sides
few c =
    steps_few (held c.args.counts c.args.columns.now) _ _ _ _ c.walk_ring.ensures.value c.steps_of-steps.ensures

pub overflow_add-all : goal.overflow_add-all
overflow_add-all c =
    omega (arith, few (goal.at.overflow_add-all c).After-steps_of-steps, c.loop-i.invariant.0, c.loop-i.invariant.2, c.requires.text_space_in_bounds.2)

pub loop-i-preserved : goal.loop-i-preserved
loop-i-preserved c =
    let t = tile_of (goal.at.loop-i-preserved c).At-loop-i in
    let face = c.row.ensures ∙ ap (λ (l : Columns). entry l.fac_id (c.loop-i.i + 1)) c.columns.view_is ∙
    ring_face c.args.counts (lent (goal.at.loop-i-preserved c).At-loop-i) c.requires.program_sides_value (c.loop-i.i + 1) (omega arith, omega arith) in
    let more = ring_added t _ _ _ _ _ _ c.loop-i.i (c.loop-i.i + 1) _ _ _ _ refl face c.walk_ring.ensures.value c.loop-i.invariant.0
    c.steps_of-steps.ensures c.loop-i.invariant.3 c.loop-i.invariant.4
    c.add_ring-at.ensures.value c.add_ring-at.ensures.text_after in (
      search rules,
      steps_next t program_sides _ c.loop-i.i c.loop-i.all _ _ _ c.loop-i.invariant.1 refl c.loop-i.invariant.0
          c.walk_ring.ensures.value c.steps_of-steps.ensures,
      omega (arith, few (goal.at.loop-i-preserved c).After-steps_of-steps, c.loop-i.invariant.0, c.loop-i.invariant.2),
      more.0,
      more.1,
    )

pub add_steps-requires : goal.add_steps-requires
add_steps-requires c = room (goal.at.add_steps-requires c).At-loop-i

pub shape_of-text : goal.shape_of-text
shape_of-text c =
    c.add_steps.auto.text ∙ same_space (goal.at.shape_of-text c).At-loop-i

pub returns : goal.returns
returns c =
    let end : c.loop-i.i ≡ c.args.counts.rings = omega (arith, c.loop-i-test.false, c.loop-i.auto) in
    let p = c.requires in
    let at-loop = (goal.at.returns c).At-loop-i in
    let all = text_whole c.args.counts (lent at-loop) p.program_sides_value p.text_space_in_bounds.1 p.text_space_in_bounds.2
    c.args.text.now _ _ _ _ _ _ c.loop-i.all p.text_space_in_bounds.0 (first_line at-loop)
    (accept_told c.args.counts c.args.text.now p.text_space_in_bounds.0 _ c.accept_line-at.ensures.out_after)
    (rw end at c.loop-i.invariant.3) (rw end at c.loop-i.invariant.4) c.add_steps.ensures.value
    c.add_steps.ensures.text_after (rw end at c.loop-i.invariant.1) in
    record { value = all.0; text_after = all.1 }
