-- Lists of operations and of values, and the payloads that they are.
use Rattle.std.proofs.Common.{◌≡◌, ℕ, ◌-◌, ◌*◌, ◌^◌, ◌<◌, ◌≤◌, Bool, true, false, cond, ltb, List, [], ◌∷◌, ◌++◌, length, take, drop, Option, Some, None, refl, sym, ap, ◌∙◌, append_assoc, arith}
use Rattle.std.specs.Prelude.{ℤ, pos, negsuc, IfSome}
use Rattle.std.specs.Int.RustNames.{FitsSigned}
use Rattle.std.specs.List.{flat_map, AllByRecursion}
use Rattle.std.specs.Int.{w16, to_le_bytes, from_le_bytes, cast_signed, cast_unsigned}
use Rattle.std.proofs.lemmas.Int.{ints, of_z-to_z, to_z-of_z}
use Rattle.std.proofs.lemmas.List.{nil_from_length, take_all, take_rest}
use Rattle.std.proofs.lemmas.Nat.{le_bytes_2, le_bytes_8, from_le_bytes-to_le_bytes_2, from_le_bytes-to_le_bytes_8}
use Rattle.ipc_call.specs.declared.calls.SemOper.{SemOper}
use Rattle.ipc_wire.specs.Layout.{oper_bytes, oper_in, opers_in, room_bytes, room_in, u16_at, u64_at, value_bytes, values_in}
use Rattle.ipc_wire.specs.Ranges.{Fits64, OperFits, ValueFits}
use Rattle.ipc_wire.proofs.Bytes.{IsBytes, bytes-drop, bytes-take}

-- the first operation, and the rest
pub opers_step : (p : List ℕ) → 6 ≤ length p → opers_in p ≡ oper_in p ∷ opers_in (drop 6 p)
opers_step (a ∷ b ∷ c ∷ d ∷ e ∷ f ∷ rest) long = refl
opers_step _ long = absurd (omega (arith, long))

pub opers_short : (p : List ℕ) → length p < 6 → opers_in p ≡ []
opers_short (a ∷ b ∷ c ∷ d ∷ e ∷ f ∷ rest) short = absurd (omega (arith, short))
opers_short _ short = refl

pub values_step : (p : List ℕ) → 2 ≤ length p → values_in p ≡ pos (u16_at 0 p) ∷ values_in (drop 2 p)
values_step (a ∷ b ∷ rest) long = refl
values_step _ long = absurd (omega (arith, long))

pub values_short : (p : List ℕ) → length p < 2 → values_in p ≡ []
values_short (a ∷ b ∷ rest) short = absurd (omega (arith, short))
values_short _ short = refl

pub opers_length : (os : List SemOper) → length (flat_map oper_bytes os) ≡ 6 * length os
opers_length [] = refl
opers_length (o ∷ os) = omega (arith, opers_length os)

pub values_length : (vs : List ℤ) → length (flat_map value_bytes vs) ≡ 2 * length vs
values_length [] = refl
values_length (v ∷ vs) = omega (arith, values_length vs)

-- ---- what is read is written so

pair_back : (a b : ℕ) (rest : List ℕ) → IsBytes (a ∷ b ∷ rest) → to_le_bytes w16 (u16_at 0 (a ∷ b ∷ [])) ≡ a ∷ b ∷ []
pair_back a b rest fits =
    le_bytes_2 (a ∷ b ∷ []) _ refl (bytes-take 2 (a ∷ b ∷ rest) fits) refl

pair_below : (a b : ℕ) (rest : List ℕ) → IsBytes (a ∷ b ∷ rest) → u16_at 0 (a ∷ b ∷ []) < 2 ^ 16
pair_below a b rest fits = omega (arith, fits 0, fits 1)

signed_back : (n : ℕ) → n < 2 ^ 16 → to_le_bytes w16 (cast_unsigned w16 (cast_signed w16 n)) ≡ to_le_bytes w16 n
signed_back n below = ap (to_le_bytes w16) (of_z-to_z w16 n below)

pub opers_back : (p : List ℕ) → IsBytes p → length (flat_map oper_bytes (opers_in p)) ≡ length p → flat_map oper_bytes (opers_in p) ≡ p
opers_back (a ∷ b ∷ c ∷ d ∷ e ∷ f ∷ rest) fits len =
    let tail = flat_map oper_bytes (opers_in rest) in
    let y : List ℕ = to_le_bytes w16 (cast_unsigned w16 (cast_signed w16 (u16_at 0 (c ∷ d ∷ [])))) in
    let z : List ℕ = to_le_bytes w16 (u16_at 0 (e ∷ f ∷ [])) in
    let after_two = bytes-drop 2 (a ∷ b ∷ c ∷ d ∷ e ∷ f ∷ rest) fits in
    let after_four = bytes-drop 4 (a ∷ b ∷ c ∷ d ∷ e ∷ f ∷ rest) fits in
    let after_six = bytes-drop 6 (a ∷ b ∷ c ∷ d ∷ e ∷ f ∷ rest) fits in
    ap (λ (x : List ℕ). x ++ y ++ z ++ tail) (pair_back a b (c ∷ d ∷ e ∷ f ∷ rest) fits)
    ∙ ap (λ (x : List ℕ). (a ∷ b ∷ []) ++ x ++ z ++ tail) (signed_back _ (pair_below c d (e ∷ f ∷ rest) after_two) ∙ pair_back c d (e ∷ f ∷ rest) after_two)
    ∙ ap (λ (x : List ℕ). (a ∷ b ∷ c ∷ d ∷ []) ++ x ++ tail) (pair_back e f rest after_four)
    ∙ ap (λ (x : List ℕ). a ∷ b ∷ c ∷ d ∷ e ∷ f ∷ x) (opers_back rest after_six (omega (arith, len)))
opers_back p fits len = sym (nil_from_length p (sym len))

pub values_back : (p : List ℕ) → IsBytes p → length (flat_map value_bytes (values_in p)) ≡ length p → flat_map value_bytes (values_in p) ≡ p
values_back (a ∷ b ∷ rest) fits len =
    ap (λ (x : List ℕ). x ++ flat_map value_bytes (values_in rest)) (pair_back a b rest fits)
    ∙ ap (λ (x : List ℕ). a ∷ b ∷ x) (values_back rest (bytes-drop 2 (a ∷ b ∷ rest) fits) (omega (arith, len)))
values_back p fits len = sym (nil_from_length p (sym len))

abbrev given : ℕ → Option ℕ
given n = Some n

room_by : (b : Bool) (p : List ℕ) → IsBytes p → length (room_bytes (cond b None (given (u64_at 0 p)))) ≡ length p
    → room_bytes (cond b None (given (u64_at 0 p))) ≡ p
room_by true p fits len = sym (nil_from_length p (sym len))
room_by false p fits len =
    let all : take 8 p ≡ p = take_all 8 p (omega (arith, len)) in
    le_bytes_8 (take 8 p) _ (ap length all ∙ sym len) (bytes-take 8 p fits) refl ∙ all

pub room_back : (p : List ℕ) → IsBytes p → length (room_bytes (room_in p)) ≡ length p → room_bytes (room_in p) ≡ p
room_back p fits len = room_by (ltb (length p) 8) p fits len

-- ---- what is written is read again

abbrev oper_made : ℕ → ℤ → ℕ → SemOper
oper_made num op flags = record { num = num; op = op; flags = flags }

signed_again : (z : ℤ) → FitsSigned w16 z → cast_signed w16 (from_le_bytes w16 (to_le_bytes w16 (cast_unsigned w16 z))) ≡ z
signed_again z fits =
    ap (cast_signed w16) (from_le_bytes-to_le_bytes_2 (cast_unsigned w16 z) (omega (arith, ints))) ∙ to_z-of_z w16 z fits

pub opers_again : (os : List SemOper) → AllByRecursion OperFits os → opers_in (flat_map oper_bytes os) ≡ os
opers_again [] fits = refl
opers_again (o ∷ os) fits =
    let rest = opers_in (flat_map oper_bytes os) in
    let op = cast_signed w16 (from_le_bytes w16 (to_le_bytes w16 (cast_unsigned w16 o.op))) in
    let flags = from_le_bytes w16 (to_le_bytes w16 o.flags) in
    ap (λ (x : ℕ). oper_made x op flags ∷ rest) (from_le_bytes-to_le_bytes_2 o.num fits.0.0)
    ∙ ap (λ (x : ℤ). oper_made o.num x flags ∷ rest) (signed_again o.op fits.0.1)
    ∙ ap (λ (x : ℕ). oper_made o.num o.op x ∷ rest) (from_le_bytes-to_le_bytes_2 o.flags fits.0.2)
    ∙ ap (λ (x : List SemOper). o ∷ x) (opers_again os fits.1)

pub values_again : (vs : List ℤ) → AllByRecursion ValueFits vs → values_in (flat_map value_bytes vs) ≡ vs
values_again [] fits = refl
values_again (pos n ∷ vs) fits =
    ap (λ (x : ℕ). pos x ∷ values_in (flat_map value_bytes vs)) (from_le_bytes-to_le_bytes_2 n fits.0)
    ∙ ap (λ (x : List ℤ). pos n ∷ x) (values_again vs fits.1)
values_again (negsuc n ∷ vs) fits = absurd fits.0

pub room_again : (room : Option ℕ) → IfSome room Fits64 → room_in (room_bytes room) ≡ room
room_again None fits = refl
room_again (Some n) fits = ap given (from_le_bytes-to_le_bytes_8 n fits)

-- one operation more is read
pub opers_on : (before after : List SemOper) (o : SemOper) (rest payload : List ℕ) → 6 ≤ length rest → o ≡ oper_in rest
    → after ≡ before ++ o ∷ [] → before ++ opers_in rest ≡ opers_in payload
    → after ++ opers_in (take (length rest - 6) (drop 6 rest)) ≡ opers_in payload
opers_on before after o rest payload long is pushed so_far =
    ap (λ (r : List ℕ). after ++ opers_in r) (take_rest rest 6)
    ∙ ap (λ (os : List SemOper). os ++ opers_in (drop 6 rest)) pushed
    ∙ append_assoc before (o ∷ []) (opers_in (drop 6 rest))
    ∙ ap (λ (x : SemOper). before ++ x ∷ opers_in (drop 6 rest)) is
    ∙ ap (λ (os : List SemOper). before ++ os) (sym (opers_step rest long))
    ∙ so_far
