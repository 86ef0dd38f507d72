use Rattle.load.specs.Sources.{type_fits}
use Rattle.load.proofs.fitting.type_fits.Goals as goal

pub returns-then-is_integer : goal.returns-then-is_integer
unfolding type_fits
returns-then-is_integer c = simp (c.if-is_integer.true, ← c.is_integer.ensures)

pub returns-then-takes_triplets : goal.returns-then-takes_triplets
unfolding type_fits
returns-then-takes_triplets c =
    simp (
      ← c.is_triplet.ensures,
      c.if-takes_triplets.true,
      ← c.takes_triplets.ensures,
      c.if-is_integer.false,
      ← c.is_integer.ensures,
    )

pub returns : goal.returns
unfolding type_fits
returns c =
    simp (c.if-takes_triplets.false, ← c.takes_triplets.ensures, c.if-is_integer.false, ← c.is_integer.ensures)
