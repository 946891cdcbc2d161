-- The class of a caller in words (the project's own).
use Rattle.std.specs.Prelude.{ℕ, ◌==◌, List, [], ◌++◌, codes, decimal, if◌then◌else◌}
use Rattle.ipc_call.specs.declared.perms.Perm.{Perm}
use Rattle.ipc_creds.specs.Credentials.{Credentials}
use Rattle.ipc_perm.specs.Access.{bits_of, class_of, rights}
use Rattle.perm_words.specs.ObjectText.{mode_text}
use Rattle.perm_words.specs.Standing.{name_of_rights, standing_of}
use Rattle.perm_words.specs.declared.standing.Standing.{Standing}
use Rattle.perm_words.specs.declared.standing.Standing.TheVariants.{Owner, Creator, OwnersGroup, CreatorsGroup, Other}

abbrev pub user_text : Credentials → List ℕ → List ℕ
user_text c who = codes "class owner: its user " ++ (decimal c.euid ++ (codes " is the " ++ who))

-- a group is a supplementary one where it isn't the effective one
unfoldable pub sort_text : Credentials → ℕ → List ℕ
sort_text c group = if group == c.egid then [] else codes "supplementary "

abbrev pub group_text : Credentials → ℕ → List ℕ → List ℕ
group_text c group whose =
    codes "class group: its " ++ (sort_text c group ++ (codes "group " ++ (decimal group ++ (codes " is the " ++ whose))))

abbrev pub other_text : Credentials → List ℕ
other_text c =
    codes "class others: its user "
    ++ (decimal c.euid ++ codes " is neither owner nor creator, and none of its groups is one of theirs")

-- by which of its users or groups it is in its class
abbrev pub standing_text : Credentials → Perm → Standing → List ℕ
standing_text c p Owner = user_text c (codes "owner")
standing_text c p Creator = user_text c (codes "creator")
standing_text c p OwnersGroup = group_text c p.gid (codes "owner's")
standing_text c p CreatorsGroup = group_text c p.cgid (codes "creator's")
standing_text c p Other = other_text c

-- what a mode gives a class, by the name of the rights
abbrev pub given_text : ℕ → List ℕ → List ℕ
given_text mode given = codes "; the mode " ++ (mode_text mode ++ (codes " gives this class " ++ given))

-- by what the caller is in the class that decides, and what the mode gives that class
abbrev pub class_text : Credentials → Perm → List ℕ
class_text c p =
    standing_text c p (standing_of c p)
    ++ given_text p.mode (name_of_rights (rights (bits_of (class_of c p) p.mode)))
