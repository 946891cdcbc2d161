-- The credentials of a user's process.
use Rattle.std.specs.Prelude.{[]}
use Rattle.ipc_creds.specs.Credentials.{Credentials}
use Rattle.call_values.specs.declared.values.User.{User}

abbrev pub creds_of_user : User → Credentials
creds_of_user u = record { euid = u.uid; egid = u.gid; groups = []; caps = u.caps.0; ruid = u.uid; suid = u.uid; rgid = u.gid; sgid = u.gid }
