-- The length of numbers as bytes.
use Rattle.std.proofs.Common.{◌≡◌, ℕ, ◌+◌, ◌*◌, ◌≤◌, List, [], ◌∷◌, ◌++◌, length, refl, arith}
use Rattle.std.specs.Int.{w16, w64}
use Rattle.std.proofs.lemmas.List.{length-append}
use Rattle.ipc_call.specs.declared.replies.Status.{Status}
use Rattle.ipc_call.specs.declared.replies.Status.TheVariants as statuses
use Rattle.ipc_wire.specs.Replies.{marked_mode, numbers_bytes, status_bytes}

pub u16s_length : (ns : List ℕ) → length (numbers_bytes w16 ns) ≡ 2 * length ns
unfolding numbers_bytes
u16s_length [] = refl
u16s_length (n ∷ ns) = omega (arith, u16s_length ns)

pub u64s_length : (ns : List ℕ) → length (numbers_bytes w64 ns) ≡ 8 * length ns
unfolding numbers_bytes
u64s_length [] = refl
u64s_length (n ∷ ns) = omega (arith, u64s_length ns)

two_lengths : (xs ys : List ℕ) → length (numbers_bytes w64 xs ++ numbers_bytes w64 ys) ≡ 8 * length xs + 8 * length ys
two_lengths xs ys = omega (arith, length-append (numbers_bytes w64 xs) (numbers_bytes w64 ys), u64s_length xs, u64s_length ys)

-- the state of an object has at most 14 numbers
pub status_short : (status : Status) → length (status_bytes status) ≤ 112
unfolding status_bytes
status_short (statuses.Queue q) =
    omega (
      arith,
      two_lengths (q.perm.key ∷ q.perm.uid ∷ q.perm.gid ∷ q.perm.cuid ∷ q.perm.cgid ∷ q.perm.mode ∷ [])
          (q.cbytes ∷ q.qnum ∷ q.qbytes ∷ q.lspid ∷ q.lrpid ∷ q.stime ∷ q.rtime ∷ q.ctime ∷ []),
    )
status_short (statuses.Set s) =
    omega (
      arith,
      two_lengths (s.perm.key ∷ s.perm.uid ∷ s.perm.gid ∷ s.perm.cuid ∷ s.perm.cgid ∷ s.perm.mode ∷ [])
          (s.nsems ∷ s.otime ∷ s.ctime ∷ []),
    )
status_short (statuses.Segment s) =
    omega (
      arith,
      two_lengths
          (s.perm.key ∷ s.perm.uid ∷ s.perm.gid ∷ s.perm.cuid ∷ s.perm.cgid ∷ marked_mode s.is_marked s.perm.mode ∷ [])
          (s.size ∷ s.nattch ∷ s.cpid ∷ s.lpid ∷ s.atime ∷ s.dtime ∷ s.ctime ∷ []),
    )
