-- What is left of a wave height in each state of its reading, and that the machine reads exactly that.
use mathlib.Core.Path.{◌≡◌, refl, sym, ap, ◌∙◌}
use mathlib.Core.Bool.{Bool, true, false, cond}
use mathlib.Core.List.{List, [], ◌∷◌, ◌++◌}
use Prim.Native.Nat.{ℕ, zero, suc, ◌+◌, ◌-◌, ◌*◌, ◌^◌, ◌≤◌, ◌<◌}
use native.Mathlib.Omega.{arith}
use native.Mathlib.Nat.{zero-add, pow-suc, add-mul, mul_assoc, mul_comm}
use lib.ListN.{length}
use lib.Dec.{ltb}
use borrow.Author.Tests.{ltb-true, lt-ltb}
use Rattle.laws.specs.Machine.{on_next, Accepts}
use Rattle.std.specs.Prelude.{Some, None}
use Rattle.wave.specs.Words.{point, most_whole, most_part, thousand, IsDigit, IsSpace, Every, digit, number, Fraction, absent, present}
use Rattle.wave.specs.Height.{kind_of, worth_of, step_of, next_of, machine, Roomy}
use Rattle.wave.specs.declared.Kind.{Kind}
use Rattle.wave.specs.declared.State.{State}
use Rattle.wave.specs.declared.State.TheVariants.{Whole, Part, Spaces}
use Rattle.wave.proofs.Bytes.{Seen, seen-digit, seen-point, seen-space, seen_other, seen, digit_kind, one_digit}
use Rattle.wave.proofs.RoomLaws.{RoomyStep, roomy_step}

-- ---- numbers

-- one more digit of the whole
horner : (u d p n : ℕ) → (u * 10 + d) * p + n ≡ u * (p * 10) + (d * p + n)
horner u d p n = omega (arith, add-mul (u * 10) d p, mul_assoc u 10 p, ap (λ (x : ℕ). u * x) (mul_comm 10 p))

whole_value : (u b : ℕ) (ds : List ℕ) → (u * 10 + digit b) * 10 ^ length ds + number ds ≡ u * 10 ^ length (b ∷ ds) + number (b ∷ ds)
whole_value u b ds = horner u (digit b) (10 ^ length ds) (number ds) ∙ ap (λ (x : ℕ). u * x + number (b ∷ ds)) (sym (pow-suc 10 (length ds)))

-- one more digit after the point
part-value : (n l d m : ℕ) → n + suc l ≤ most_part
    → worth_of d n + m * 10 ^ (most_part - (n + 1 + l)) ≡ (d * 10 ^ l + m) * 10 ^ (most_part - (n + suc l))
part-value zero zero d m h = omega arith
part-value zero (suc zero) d m h = omega arith
part-value zero (suc (suc zero)) d m h = omega arith
part-value (suc zero) zero d m h = omega arith
part-value (suc zero) (suc zero) d m h = omega arith
part-value (suc (suc zero)) zero d m h = omega arith
part-value zero (suc (suc (suc l))) d m h = let z : ⊥ = omega arith in absurd z
part-value (suc zero) (suc (suc l)) d m h = let z : ⊥ = omega arith in absurd z
part-value (suc (suc zero)) (suc l) d m h = let z : ⊥ = omega arith in absurd z
part-value (suc (suc (suc n))) l d m h = let z : ⊥ = omega arith in absurd z

-- ---- what is left to read

-- after n digits of the whole, which say u: the text t is the rest of a height of v thousandths
pub record WholeLeft (n u : ℕ) (t : List ℕ) (v : ℕ) : Type 0 where
  pub ds : List ℕ
  pub part : List ℕ
  pub part_value : ℕ
  pub blanks : List ℕ
  pub stands : t ≡ ds ++ (part ++ blanks)
  pub digits : Every IsDigit ds
  pub some : 1 ≤ n + length ds
  pub few : n + length ds ≤ most_whole
  pub fraction : Fraction part part_value
  pub spaces : Every IsSpace blanks
  pub value : v ≡ (u * 10 ^ length ds + number ds) * thousand + part_value

-- after n digits behind the point, with u thousandths so far
pub record PartLeft (n u : ℕ) (t : List ℕ) (v : ℕ) : Type 0 where
  pub ds : List ℕ
  pub blanks : List ℕ
  pub stands : t ≡ ds ++ blanks
  pub digits : Every IsDigit ds
  pub some : 1 ≤ n + length ds
  pub few : n + length ds ≤ most_part
  pub spaces : Every IsSpace blanks
  pub value : v ≡ u + number ds * 10 ^ (most_part - (n + length ds))

abbrev pub Left : State → List ℕ → ℕ → Type 0
Left (Whole n u) t v = WholeLeft n u t v
Left (Part n u) t v = PartLeft n u t v
Left (Spaces u) t v = Every IsSpace t × (v ≡ u)

-- the text may end in this state, as a height of v thousandths
abbrev pub Final : ℕ → State → Type 0
Final v (Whole n u) = (0 < n) × (v ≡ u * thousand)
Final v (Part n u) = (0 < n) × (v ≡ u)
Final v (Spaces u) = v ≡ u

-- ---- a text that is left is read to its end

module _ (v : ℕ) where
  abbrev Reads : List ℕ → State → Type 0
  Reads = Accepts machine (Final v)

  read_spaces : (u : ℕ) (t : List ℕ) → Every IsSpace t → v ≡ u → Reads t (Spaces u)
  read_spaces u [] s e = e
  read_spaces u (b ∷ t) s e = rw s.0 (read_spaces u t s.1 e)

  -- where the text may end, spaces may follow
  part_ends : (n u : ℕ) (t : List ℕ) → 0 < n → Every IsSpace t → v ≡ u → Reads t (Part n u)
  part_ends n u [] h s e = (h, e)
  part_ends n u (b ∷ t) h s e = rw (s.0, lt-ltb 0 n h) (read_spaces u t s.1 e)

  whole_ends : (n u : ℕ) (t : List ℕ) → 0 < n → Every IsSpace t → v ≡ u * thousand → Reads t (Whole n u)
  whole_ends n u [] h s e = (h, e)
  whole_ends n u (b ∷ t) h s e = rw (s.0, lt-ltb 0 n h) (read_spaces (u * thousand) t s.1 e)

  read_part : (n u : ℕ) (ds t : List ℕ) → Every IsDigit ds → 1 ≤ n + length ds → n + length ds ≤ most_part → Every IsSpace t
      → v ≡ u + number ds * 10 ^ (most_part - (n + length ds)) → Reads (ds ++ t) (Part n u)
  read_part n u [] t d h f s e = part_ends n u t (omega arith) s (omega arith)
  read_part n u (b ∷ ds) t d h f s e =
      let k : n < most_part = omega arith in
      rw (digit_kind b d.0, lt-ltb n most_part k)
      (read_part (n + 1) (u + worth_of (digit b) n) ds t d.1 (omega arith) (omega arith) s
      (omega (arith, part-value n (length ds) (digit b) (number ds) f)))

  read_whole : (n u : ℕ) (ds part t : List ℕ) (p : ℕ) → Every IsDigit ds → 1 ≤ n + length ds → n + length ds ≤ most_whole
      → Fraction part p → Every IsSpace t
      → v ≡ (u * 10 ^ length ds + number ds) * thousand + p → Reads (ds ++ (part ++ t)) (Whole n u)
  read_whole n u [] part t p d h f absent s e = whole_ends n u t (omega arith) s (omega arith)
  read_whole n u [] part t p d h f (present {ds} q) s e =
      let k : 0 < n = omega arith in
      rw (lt-ltb 0 n k) (read_part 0 (u * thousand) ds t q.digits (omega (arith, q.some)) (omega (arith, q.few)) s
      (omega (arith, ap (λ (k : ℕ). number ds * 10 ^ (most_part - k)) (zero-add (length ds)))))
  read_whole n u (b ∷ ds) part t p d h f q s e =
      let k : n < most_whole = omega arith in
      rw (digit_kind b d.0, lt-ltb n most_whole k)
      (read_whole (n + 1) (u * 10 + digit b) ds part t p d.1 (omega arith) (omega arith) q s (omega (arith, whole_value u b ds)))

  pub read : (st : State) (t : List ℕ) → Left st t v → Reads t st
  read (Whole n u) t w = rw w.stands (read_whole n u w.ds w.part w.blanks w.part_value w.digits
      w.some w.few w.fraction w.spaces w.value)
  read (Part n u) t w = rw w.stands (read_part n u w.ds w.blanks w.digits w.some w.few w.spaces w.value)
  read (Spaces u) t w = read_spaces u t w.0 w.1

-- ---- a text that is read to its end was left

-- where a text goes on, the test held
went : (P : State → Type 0) (b : Bool) (st : State) → RoomyStep (cond b (Some st) None)
    → on_next P (next_of (cond b (Some st) None)) → (b ≡ true) × Roomy st × P st
went P true st r a = (refl, r, a)
went P false st r a = absurd a

module _ (v : ℕ) where
  more_part : (n u b : ℕ) (t : List ℕ) → IsDigit b → PartLeft (n + 1) (u + worth_of (digit b) n) t v → PartLeft n u (b ∷ t) v
  more_part n u b t d w =
      let f : n + suc (length w.ds) ≤ most_part = omega (arith, w.few) in
      record {
        ds = b ∷ w.ds;
        blanks = w.blanks;
        stands = ap (λ (l : List ℕ). b ∷ l) w.stands;
        digits = (d, w.digits);
        some = omega arith;
        few = f;
        spaces = w.spaces;
        value = omega (arith, w.value, part-value n (length w.ds) (digit b) (number w.ds) f);
      }

  part-over : (n u : ℕ) (t : List ℕ) → 0 < n → n ≤ most_part → Every IsSpace t → v ≡ u → PartLeft n u t v
  part-over n u t h f s e =
      record { ds = []; blanks = t; stands = refl; digits = tt; some = omega arith; few = omega arith; spaces = s; value = omega arith }

  more_whole : (n u b : ℕ) (t : List ℕ) → IsDigit b → WholeLeft (n + 1) (u * 10 + digit b) t v → WholeLeft n u (b ∷ t) v
  more_whole n u b t d w =
      record {
        ds = b ∷ w.ds;
        part = w.part;
        part_value = w.part_value;
        blanks = w.blanks;
        stands = ap (λ (l : List ℕ). b ∷ l) w.stands;
        digits = (d, w.digits);
        some = omega arith;
        few = omega (arith, w.few);
        fraction = w.fraction;
        spaces = w.spaces;
        value = omega (arith, w.value, whole_value u b w.ds);
      }

  to_part : (n u b : ℕ) (t : List ℕ) → b ≡ point → 0 < n → n ≤ most_whole → PartLeft 0 (u * thousand) t v → WholeLeft n u (b ∷ t) v
  to_part n u b t e h f w =
      record {
        ds = [];
        part = point ∷ w.ds;
        part_value = number w.ds * 10 ^ (most_part - length w.ds);
        blanks = w.blanks;
        stands = rw (e, w.stands);
        digits = tt;
        some = omega arith;
        few = omega arith;
        fraction = present {ds = w.ds} (record { some = omega (arith, w.some); few = omega (arith, w.few); digits = w.digits });
        spaces = w.spaces;
        value = omega (arith, w.value, ap (λ (k : ℕ). number w.ds * 10 ^ (most_part - k)) (zero-add (length w.ds)));
      }

  whole_over : (n u : ℕ) (t : List ℕ) → 0 < n → n ≤ most_whole → Every IsSpace t → v ≡ u * thousand → WholeLeft n u t v
  whole_over n u t h f s e =
      record { ds = []; part = []; part_value = 0; blanks = t; stands = refl; digits = tt; some = omega arith; few = omega arith; fraction = absent; spaces = s; value = omega arith }

  over : (st : State) → Roomy st → Final v st → Left st [] v
  over (Whole n u) r f = whole_over n u [] f.0 r.0 tt f.1
  over (Part n u) r f = part-over n u [] f.0 r.0 tt f.1
  over (Spaces u) r f = (tt, f)

  pub was_left : (t : List ℕ) (st : State) → Roomy st → Accepts machine (Final v) t st → Left st t v
  was_left [] st r a = over st r a
  was_left (b ∷ t) st r a = by (λ st₁. was_left t st₁) st (kind_of b) (seen b) r (roomy_step st (kind_of b) r (one_digit b)) a
    where
      by : ((st₁ : State) → Roomy st₁ → Accepts machine (Final v) t st₁ → Left st₁ t v) → (st : State) (k : Kind)
          → Seen b k → Roomy st → RoomyStep (step_of st k)
          → on_next (Accepts machine (Final v) t) (next_of (step_of st k)) → Left st (b ∷ t) v
      by ih (Whole n u) k (seen-digit d) r s a =
          let g = went (Accepts machine (Final v) t) (ltb n most_whole) (Whole (n + 1) (u * 10 + digit b)) s a in
          more_whole n u b t d (ih (Whole (n + 1) (u * 10 + digit b)) g.1 g.2)
      by ih (Whole n u) k (seen-point e) r s a =
          let g = went (Accepts machine (Final v) t) (ltb 0 n) (Part 0 (u * thousand)) s a in
          to_part n u b t e (ltb-true 0 n g.0) r.0 (ih (Part 0 (u * thousand)) g.1 g.2)
      by ih (Whole n u) k (seen-space e) r s a =
          let g = went (Accepts machine (Final v) t) (ltb 0 n) (Spaces (u * thousand)) s a in
          let w = ih (Spaces (u * thousand)) g.1 g.2 in
          whole_over n u (b ∷ t) (ltb-true 0 n g.0) r.0 (e, w.0) w.1
      by ih (Whole n u) k seen_other r s a = absurd a
      by ih (Part n u) k (seen-digit d) r s a =
          let g = went (Accepts machine (Final v) t) (ltb n most_part) (Part (n + 1) (u + worth_of (digit b) n)) s a in
          more_part n u b t d (ih (Part (n + 1) (u + worth_of (digit b) n)) g.1 g.2)
      by ih (Part n u) k (seen-point e) r s a = absurd a
      by ih (Part n u) k (seen-space e) r s a =
          let g = went (Accepts machine (Final v) t) (ltb 0 n) (Spaces u) s a in
          let w = ih (Spaces u) g.1 g.2 in
          part-over n u (b ∷ t) (ltb-true 0 n g.0) r.0 (e, w.0) w.1
      by ih (Part n u) k seen_other r s a = absurd a
      by ih (Spaces u) k (seen-digit d) r s a = absurd a
      by ih (Spaces u) k (seen-point e) r s a = absurd a
      by ih (Spaces u) k (seen-space e) r s a = let w = ih (Spaces u) tt a in ((e, w.0), w.1)
      by ih (Spaces u) k seen_other r s a = absurd a
