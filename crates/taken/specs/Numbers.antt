-- "From K the internal id is taken; absent, null or negative numbers load as 0."
use Rattle.std.specs.Prelude.{cond, List, ℕ, ◌-◌, eqb, ltb, take, drop, Ok, Err}
use Rattle.number.specs.declared.Order.{Order}
use Rattle.number.specs.Bytes.{number}
use Rattle.field.specs.declared.FieldType.{FieldType}
use Rattle.field.specs.Letters.{letter_i, letter_k}
use Rattle.field.specs.Fields.{is_integer, is_triplet}
use Rattle.triplet.specs.Triplet.{Reading, triplet_of}

-- the patterns from 2,147,483,648 on are the negative numbers and null
unfoldable pub natural : ℕ → ℕ
natural bits = cond (ltb bits 2147483648) bits 0

abbrev pub internal_id : Reading → ℕ
internal_id (Ok t) = t.ids.id
internal_id (Err q) = 0

-- the number of an I or K field that starts at p, in a row that ends at `end`
unfoldable pub number_in : Order → List ℕ → FieldType → ℕ → ℕ → ℕ
number_in o s kind p end =
    cond (is_integer kind) (natural (number o s p 4))
    (cond (is_triplet kind) (internal_id (triplet_of o (take (end - p) (drop p s)))) 0)

-- the same by the letter of the type
unfoldable pub number_by : Order → List ℕ → ℕ → ℕ → ℕ → ℕ
number_by o s letter p end =
    cond (eqb letter letter_i) (natural (number o s p 4))
    (cond (eqb letter letter_k) (internal_id (triplet_of o (take (end - p) (drop p s)))) 0)
