-- What serves the code alone: std's order of floats, as `<` asks it, is `lt`.
use Rattle.std.specs.Prelude.{◌≡◌, refl, Bool, true, false, cond, Float, Some, None}
use Rattle.std.specs.Ordering.{partial_lt, float_partial_cmp, is_lt, is_some_and}
use Rattle.std.specs.declared.cmp.Ordering.TheVariants.{Less, Equal, Greater}
use Rattle.std.specs.Float.Ieee.{lt, eq}

pub compares : (x y : Float) → partial_lt float_partial_cmp x y ≡ lt x y
compares x y = go (lt x y) (eq x y) (lt y x)
  where
    go : (a b c : Bool) → is_some_and is_lt (cond a (Some Less) (cond b (Some Equal) (cond c (Some Greater) None))) ≡ a
    go true b c = refl
    go false true c = refl
    go false false true = refl
    go false false false = refl
