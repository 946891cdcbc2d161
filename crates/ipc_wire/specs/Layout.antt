-- Where the numbers of a request stand in its bytes: 48 bytes of words, each little-endian, and then the payload.
use Rattle.std.specs.Prelude.{ℕ, ℤ, pos, ◌==◌, Bool, ◌&&◌, List, [], ◌∷◌, ◌++◌, length, take, drop, Option, None, Some, nat_lt, if◌then◌else◌}
use Rattle.std.specs.Int.{w16, w32, w64, to_le_bytes, from_le_bytes, cast_signed, cast_unsigned}
use Rattle.ipc_call.specs.declared.calls.SemOper.{SemOper}
use Rattle.ipc_wire.specs.declared.words.Words.{Words}

abbrev pub words_bytes : Words → List ℕ
words_bytes w =
    to_le_bytes w32 w.op ++ to_le_bytes w32 w.seq
    ++ to_le_bytes w64 w.a ++ to_le_bytes w64 w.b ++ to_le_bytes w64 w.c ++ to_le_bytes w64 w.d ++ to_le_bytes w64 w.e

-- the number of 16, 32 or 64 bits that begins at a place
abbrev pub u16_at : ℕ → List ℕ → ℕ
u16_at at bytes = from_le_bytes w16 (take 2 (drop at bytes))

abbrev pub u32_at : ℕ → List ℕ → ℕ
u32_at at bytes = from_le_bytes w32 (take 4 (drop at bytes))

abbrev pub u64_at : ℕ → List ℕ → ℕ
u64_at at bytes = from_le_bytes w64 (take 8 (drop at bytes))

abbrev pub words_in : List ℕ → Words
words_in bytes = record {
  op = u32_at 0 bytes;
  seq = u32_at 4 bytes;
  a = u64_at 8 bytes;
  b = u64_at 16 bytes;
  c = u64_at 24 bytes;
  d = u64_at 32 bytes;
  e = u64_at 40 bytes;
}

abbrev pub same_words : Words → Words → Bool
same_words v w =
    v.op == w.op && v.seq == w.seq && v.a == w.a && v.b == w.b && v.c == w.c && v.d == w.d && v.e == w.e

-- an operation of semop, of six bytes
abbrev pub oper_bytes : SemOper → List ℕ
oper_bytes o = to_le_bytes w16 o.num ++ to_le_bytes w16 (cast_unsigned w16 o.op) ++ to_le_bytes w16 o.flags

abbrev pub oper_in : List ℕ → SemOper
oper_in six = record { num = u16_at 0 six; op = cast_signed w16 (u16_at 2 six); flags = u16_at 4 six }

-- the operations of a payload, but for a rest of less than six bytes
abbrev pub opers_in : List ℕ → List SemOper
opers_in (a ∷ b ∷ c ∷ d ∷ e ∷ f ∷ rest) = oper_in (a ∷ b ∷ c ∷ d ∷ e ∷ f ∷ []) ∷ opers_in rest
opers_in _ = []

-- a value, of two bytes
abbrev pub value_bytes : ℤ → List ℕ
value_bytes value = to_le_bytes w16 (cast_unsigned w16 value)

-- the values of a payload, but for a rest of one byte
abbrev pub values_in : List ℕ → List ℤ
values_in (a ∷ b ∷ rest) = pos (u16_at 0 (a ∷ b ∷ [])) ∷ values_in rest
values_in _ = []

-- a number of bytes that may be left out
abbrev pub room_bytes : Option ℕ → List ℕ
room_bytes None = []
room_bytes (Some room) = to_le_bytes w64 room

abbrev pub room_in : List ℕ → Option ℕ
room_in payload = if nat_lt (length payload) 8 then None else Some (u64_at 0 payload)
