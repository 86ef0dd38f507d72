-- The ways on from a spot: one more byte of the field, its closer, the end of the columns, a star, a colon without its comma; and no way else.
use mathlib.Core.Path.{◌≡◌, refl}
use mathlib.Core.Bool.{Bool, true, false}
use Prim.Native.Nat.{ℕ, ◌+◌, ◌≤◌, ◌<◌}
use lib.Dec.{ltb, eqb}
use native.Mathlib.Omega.{arith}
use Rattle.std.proofs.lemmas.Bool.Decides.{nat_tests}
use borrow.Author.Tests.{lt-ltb}
use Rattle.laws.specs.Machine.{Next, go, stop}
use Rattle.laws.proofs.TestLaws.{cond_same, clash}
use Rattle.grammar.specs.Words.{semicolon, colon, star}
use Rattle.grammar.specs.Fields.{rule, printable, letter, plain, digit, holds, allowed}
use Rattle.grammar.specs.Scan.{spot, takes, closes, ends, stars, lacks_comma, move, machine}
use Rattle.grammar.specs.Scan.{closed}
use Rattle.grammar.specs.declared.Field.{Field}
use Rattle.grammar.specs.declared.Field.TheVariants.{OrderLetter, TableDescription, TableNarrative, Name, Kind, Numeral, AfterStar}
use Rattle.grammar.specs.declared.Field.TheVariants.{Key, Description, ValueTable, ThematicIndex, Narrative, ColumnEnd, TextEnd}
use Rattle.grammar.specs.declared.Special.{Special}
use Rattle.grammar.specs.declared.Special.TheVariants.{Usual, ColumnsMayEnd, StarMayStand, ColonMayStand, ColumnIsWhole, TextIsWhole}
use Rattle.grammar.specs.declared.Spot.{Spot}

module _ (f : Field) (n cols b : ℕ) where
  pub take_step : takes f n b ≡ true → machine (spot f n cols) b ≡ go (spot f (n + 1) cols)
  unfolding move
  take_step e = rw e

  module _ (not_taken : takes f n b ≡ false) where
    pub close_step : closes f n b ≡ true → machine (spot f n cols) b ≡ go (closed f cols)
    unfolding move
    close_step e = rw (not_taken, e)

    module _ (not_closed : closes f n b ≡ false) where
      pub end_step : ends (rule f).special n cols b ≡ true → machine (spot f n cols) b ≡ go (spot TextEnd 0 cols)
      unfolding move
      end_step e = rw (not_taken, not_closed, e)

      module _ (not_ended : ends (rule f).special n cols b ≡ false) where
        pub star_step : stars (rule f).special n b ≡ true → machine (spot f n cols) b ≡ go (spot AfterStar 0 cols)
        unfolding move
        star_step e = rw (not_taken, not_closed, not_ended, e)

        module _ (not_starred : stars (rule f).special n b ≡ false) where
          pub colon_step : lacks_comma (rule f).special n b ≡ true → machine (spot f n cols) b ≡ go (spot Name 0 (cols + 1))
          unfolding move
          colon_step e = rw (not_taken, not_closed, not_ended, not_starred, e)

          pub no_step : lacks_comma (rule f).special n b ≡ false → machine (spot f n cols) b ≡ stop
          unfolding move
          no_step e = rw (not_taken, not_closed, not_ended, not_starred, e)

-- ---- a field and its closer

-- no field holds its own closer
bars : (f : Field) (n : ℕ) → allowed (rule f).holds n (rule f).closer ≡ false
unfolding allowed printable holds letter plain digit
bars OrderLetter n = refl
bars TableDescription n = refl
bars TableNarrative n = refl
bars Name n = refl
bars Kind n = refl
bars Numeral n = cond_same (eqb n 0) false
bars AfterStar n = refl
bars Key n = refl
bars Description n = refl
bars ValueTable n = refl
bars ThematicIndex n = refl
bars Narrative n = refl
bars ColumnEnd n = refl
bars TextEnd n = refl

not_own : (f : Field) (n : ℕ) → takes f n (rule f).closer ≡ false
unfolding takes
not_own f n = rw (bars f n) (cond_same (ltb n (rule f).most) false)

own : (f : Field) (n : ℕ) → (rule f).least ≤ n → closes f n (rule f).closer ≡ true
unfolding closes
own f n h = grind (arith, nat_tests)

-- the byte that closes a field, after enough bytes of it
pub closing : (f : Field) (cols n : ℕ) → (rule f).least ≤ n → machine (spot f n cols) (rule f).closer ≡ go (closed f cols)
closing f cols n h = close_step f n cols (rule f).closer (not_own f n) (own f n h)

-- the colon of a column that lacks its last comma, after one byte at least of its last name
pub ending : (cols n : ℕ) → 1 ≤ n → machine (spot Narrative n cols) colon ≡ go (spot Name 0 (cols + 1))
unfolding takes closes ends stars lacks_comma allowed printable holds plain
ending cols n h = colon_step Narrative n cols colon (cond_same (ltb n 12) false) refl refl refl (lt-ltb 0 n h)

pub closes_says : (f : Field) (n b : ℕ) → closes f n b ≡ true → (b ≡ (rule f).closer) × ((rule f).least ≤ n)
unfolding closes
closes_says f n b e =
    (grind (arith, nat_tests), grind (arith, nat_tests))

-- ---- the other ways

pub record Ends (k : Special) (n cols b : ℕ) : Type 0 where
  pub special : k ≡ ColumnsMayEnd
  pub byte : b ≡ semicolon
  pub at-start : n ≡ 0
  pub some : 0 < cols

pub record Stars (k : Special) (n b : ℕ) : Type 0 where
  pub special : k ≡ StarMayStand
  pub byte : b ≡ star
  pub at-start : n ≡ 0

pub record Bare (k : Special) (n b : ℕ) : Type 0 where
  pub special : k ≡ ColonMayStand
  pub byte : b ≡ colon
  pub some : 1 ≤ n

pub ends_says : (k : Special) (n cols b : ℕ) → ends k n cols b ≡ true → Ends k n cols b
unfolding ends
ends_says ColumnsMayEnd n cols b e =
    record {
      special = refl;
      byte = grind (arith, nat_tests);
      at-start = grind (arith, nat_tests);
      some = grind (arith, nat_tests);
    }
ends_says Usual n cols b e = clash (cc)
ends_says StarMayStand n cols b e = clash (cc)
ends_says ColonMayStand n cols b e = clash (cc)
ends_says ColumnIsWhole n cols b e = clash (cc)
ends_says TextIsWhole n cols b e = clash (cc)

pub stars_says : (k : Special) (n b : ℕ) → stars k n b ≡ true → Stars k n b
unfolding stars
stars_says StarMayStand n b e =
    record { special = refl; byte = grind (arith, nat_tests); at-start = grind (arith, nat_tests) }
stars_says Usual n b e = clash (cc)
stars_says ColumnsMayEnd n b e = clash (cc)
stars_says ColonMayStand n b e = clash (cc)
stars_says ColumnIsWhole n b e = clash (cc)
stars_says TextIsWhole n b e = clash (cc)

pub lacks_says : (k : Special) (n b : ℕ) → lacks_comma k n b ≡ true → Bare k n b
unfolding lacks_comma
lacks_says ColonMayStand n b e =
    record { special = refl; byte = grind (arith, nat_tests); some = grind (arith, nat_tests) }
lacks_says Usual n b e = clash (cc)
lacks_says ColumnsMayEnd n b e = clash (cc)
lacks_says StarMayStand n b e = clash (cc)
lacks_says ColumnIsWhole n b e = clash (cc)
lacks_says TextIsWhole n b e = clash (cc)

-- ---- one move, by the way it goes

pub data Way (f : Field) (n cols b : ℕ) : Next Spot → Type 0 where
  taken : takes f n b ≡ true → Way f n cols b (go (spot f (n + 1) cols))
  shut : closes f n b ≡ true → Way f n cols b (go (closed f cols))
  over : Ends (rule f).special n cols b → Way f n cols b (go (spot TextEnd 0 cols))
  starred : Stars (rule f).special n b → Way f n cols b (go (spot AfterStar 0 cols))
  bare : Bare (rule f).special n b → Way f n cols b (go (spot Name 0 (cols + 1)))
  barred : Way f n cols b stop

pub way : (f : Field) (n cols b : ℕ) → Way f n cols b (machine (spot f n cols) b)
way f n cols b =
    by (takes f n b) (closes f n b) (ends (rule f).special n cols b) (stars (rule f).special n b) (lacks_comma (rule f).special n b)
    refl refl refl refl refl
  where
    by : (x y z w v : Bool) → takes f n b ≡ x → closes f n b ≡ y → ends (rule f).special n cols b ≡ z → stars (rule f).special n b ≡ w
        → lacks_comma (rule f).special n b ≡ v → Way f n cols b (machine (spot f n cols) b)
    by true y z w v g h i j l = rw (take_step f n cols b g) (taken g)
    by false true z w v g h i j l = rw (close_step f n cols b g h) (shut h)
    by false false true w v g h i j l = rw (end_step f n cols b g h i) (over (ends_says (rule f).special n cols b i))
    by false false false true v g h i j l = rw (star_step f n cols b g h i j) (starred (stars_says (rule f).special n b j))
    by false false false false true g h i j l = rw (colon_step f n cols b g h i j l) (bare (lacks_says (rule f).special n b l))
    by false false false false false g h i j l = rw (no_step f n cols b g h i j l) barred
