-- By what a caller comes into its class (POSIX.1-2017 XSH 2.7.1).
use Rattle.std.specs.Prelude.{ℕ, ◌==◌, List, codes, if◌then◌else◌}
use Rattle.ipc_call.specs.declared.perms.Perm.{Perm}
use Rattle.ipc_creds.specs.Credentials.{Credentials, is_in_group}
use Rattle.ipc_perm.specs.declared.access.Class.{Class}
use Rattle.ipc_perm.specs.declared.access.Class.TheVariants as classes
use Rattle.ipc_perm.specs.declared.access.Want.{Want}
use Rattle.perm_words.specs.declared.standing.Standing.{Standing}
use Rattle.perm_words.specs.declared.standing.Standing.TheVariants.{Owner, Creator, OwnersGroup, CreatorsGroup, Other}

abbrev pub class_in : Standing → Class
class_in Owner = classes.Owner
class_in Creator = classes.Owner
class_in OwnersGroup = classes.Group
class_in CreatorsGroup = classes.Group
class_in Other = classes.Other

-- the first that fits: owner before creator, and a user before any group
abbrev pub standing_of : Credentials → Perm → Standing
standing_of c p =
    if p.uid == c.euid then Owner
    else (if p.cuid == c.euid then Creator
    else (if is_in_group c p.gid then OwnersGroup
    else (if is_in_group c p.cgid then CreatorsGroup else Other)))

-- rights, as ls(1) shows it, without execute, which no call asks for
abbrev pub name_of_rights : Want → List ℕ
name_of_rights want =
    if want.read then (if want.alter then codes "rw" else codes "r-") else (if want.alter then codes "-w" else codes "--")
