use Rattle.std.proofs.Common.{◌≡◌, arith, refl, rules}
use Rattle.std.proofs.lemmas.Slice.Eq.{text_from_reads}
use Rattle.std.specs.Prelude.{codes}
use Rattle.ipc_text.specs.Grammar.{capability_named}
use Rattle.ipc_text.proofs.grammar.capability_named.Goals as goal

pub returns-in-73 : goal.returns-in-73
unfolding capability_named
returns-in-73 c =
    let e : c.args.word.now ≡ codes "IPC_OWNER" = text_from_reads c.args.word.now (codes "IPC_OWNER") (omega arith) (search rules) in
    rw e refl

pub returns-in-83 : goal.returns-in-83
unfolding capability_named
returns-in-83 c =
    let e : c.args.word.now ≡ codes "SYS_ADMIN" = text_from_reads c.args.word.now (codes "SYS_ADMIN") (omega arith) (search rules) in
    rw e refl

pub returns-in-83-2 : goal.returns-in-83-2
unfolding capability_named
returns-in-83-2 c =
    let e : c.args.word.now ≡ codes "SYS_RESOURCE" = text_from_reads c.args.word.now (codes "SYS_RESOURCE") (omega arith) (search rules) in
    rw e refl

pub returns-in-SETUID : goal.returns-in-SETUID
unfolding capability_named
returns-in-SETUID c =
    let e : c.args.word.now ≡ codes "SETUID" = text_from_reads c.args.word.now (codes "SETUID") (omega arith) (search rules) in
    rw e refl

pub returns-in-SETGID : goal.returns-in-SETGID
unfolding capability_named
returns-in-SETGID c =
    let e : c.args.word.now ≡ codes "SETGID" = text_from_reads c.args.word.now (codes "SETGID") (omega arith) (search rules) in
    rw e refl
