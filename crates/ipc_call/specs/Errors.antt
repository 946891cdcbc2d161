-- Linux's error numbers with their names (errno(3)).
use Rattle.std.specs.Prelude.{ℕ, List, codes}
use Rattle.ipc_call.specs.declared.error.Errno.{Errno}
use Rattle.ipc_call.specs.declared.error.Errno.TheVariants.{EPERM, ENOENT, ESRCH, EINTR, E2BIG, EAGAIN, ENOMEM}
use Rattle.ipc_call.specs.declared.error.Errno.TheVariants.{EACCES, EEXIST, EINVAL, EMFILE, EFBIG, ENOSPC, ERANGE, ENOMSG, EIDRM}

unfoldable pub row_of : Errno → ℕ × List ℕ
row_of EPERM = (1, codes "EPERM")
row_of ENOENT = (2, codes "ENOENT")
row_of ESRCH = (3, codes "ESRCH")
row_of EINTR = (4, codes "EINTR")
row_of E2BIG = (7, codes "E2BIG")
row_of EAGAIN = (11, codes "EAGAIN")
row_of ENOMEM = (12, codes "ENOMEM")
row_of EACCES = (13, codes "EACCES")
row_of EEXIST = (17, codes "EEXIST")
row_of EINVAL = (22, codes "EINVAL")
row_of EMFILE = (24, codes "EMFILE")
row_of EFBIG = (27, codes "EFBIG")
row_of ENOSPC = (28, codes "ENOSPC")
row_of ERANGE = (34, codes "ERANGE")
row_of ENOMSG = (42, codes "ENOMSG")
row_of EIDRM = (43, codes "EIDRM")

abbrev pub number_of : Errno → ℕ
number_of error = (row_of error).0

abbrev pub name_of : Errno → List ℕ
name_of error = (row_of error).1
