-- `directory::short_table` meets its contract: table by table, as the definition has them.
use mathlib.Core.Path.{sym, ap, ◌∙◌}
use borrow.Author.Tests.{lt-ltb, le-ltb}
use Rattle.std.proofs.Common.{length}
use Rattle.load.specs.Columns.{Columns}
use Rattle.directory.specs.Columns.{short_of}
use native.Mathlib.Omega.{arith}
use Rattle.directory.proofs.short_table.Goals as goal

pub returns-then-edges_short : goal.returns-then-edges_short
unfolding short_of
returns-then-edges_short c = rw (sym c.edges_short.ensures ∙ c.if-edges_short.true)

pub returns-then-columns-counts : goal.returns-then-columns-counts
unfolding short_of
returns-then-columns-counts c =
    let faces = ap (λ (l : Columns). length l.ring_ptr) c.columns.view_is in
    rw (sym c.edges_short.ensures ∙ c.if-edges_short.false, lt-ltb (length c.args.columns.now.ring_ptr) c.args.counts.faces (omega (arith, faces, c.if-columns-counts.true)))

pub returns-then-rings_short : goal.returns-then-rings_short
unfolding short_of
returns-then-rings_short c =
    let faces = ap (λ (l : Columns). length l.ring_ptr) c.columns.view_is in
    rw (
      sym c.edges_short.ensures ∙ c.if-edges_short.false,
      le-ltb (length c.args.columns.now.ring_ptr) c.args.counts.faces (omega (arith, faces, c.if-columns-counts.false)),
      sym c.rings_short.ensures ∙ c.if-rings_short.true,
    )

pub returns-then-columns-counts-2 : goal.returns-then-columns-counts-2
unfolding short_of
returns-then-columns-counts-2 c =
    let faces = ap (λ (l : Columns). length l.ring_ptr) c.columns.view_is in
    let nodes = ap (λ (l : Columns). length l.first_edge) c.columns.view_is in
    rw (
      sym c.edges_short.ensures ∙ c.if-edges_short.false,
      le-ltb (length c.args.columns.now.ring_ptr) c.args.counts.faces (omega (arith, faces, c.if-columns-counts.false)),
      sym c.rings_short.ensures ∙ c.if-rings_short.false,
      lt-ltb (length c.args.columns.now.first_edge) c.args.counts.nodes (omega (arith, nodes, c.if-columns-counts-2.true)),
    )

pub returns : goal.returns
unfolding short_of
returns c =
    let faces = ap (λ (l : Columns). length l.ring_ptr) c.columns.view_is in
    let nodes = ap (λ (l : Columns). length l.first_edge) c.columns.view_is in
    rw (
      sym c.edges_short.ensures ∙ c.if-edges_short.false,
      le-ltb (length c.args.columns.now.ring_ptr) c.args.counts.faces (omega (arith, faces, c.if-columns-counts.false)),
      sym c.rings_short.ensures ∙ c.if-rings_short.false,
      le-ltb (length c.args.columns.now.first_edge) c.args.counts.nodes (omega (arith, nodes, c.if-columns-counts-2.false)),
    )
