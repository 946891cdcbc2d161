use Rattle.std.proofs.Common.{◌≡◌, arith, refl, rules}
use Rattle.std.proofs.lemmas.Slice.Eq.{text_from_reads}
use Rattle.std.specs.Prelude.{codes}
use Rattle.ipc_text.specs.Settings.{limit_named}
use Rattle.ipc_text.proofs.settings.limit_named.Goals as goal

pub returns-in-queues : goal.returns-in-queues
unfolding limit_named
returns-in-queues c =
    let e : c.args.word.now ≡ codes "queues" = text_from_reads c.args.word.now (codes "queues") (omega arith) (search rules) in
    rw e refl

pub returns-in-segments : goal.returns-in-segments
unfolding limit_named
returns-in-segments c =
    let e : c.args.word.now ≡ codes "segments" = text_from_reads c.args.word.now (codes "segments") (omega arith) (search rules) in
    rw e refl

pub returns-in-msgmax : goal.returns-in-msgmax
unfolding limit_named
returns-in-msgmax c =
    let e : c.args.word.now ≡ codes "msgmax" = text_from_reads c.args.word.now (codes "msgmax") (omega arith) (search rules) in
    rw e refl

pub returns-in-msgmnb : goal.returns-in-msgmnb
unfolding limit_named
returns-in-msgmnb c =
    let e : c.args.word.now ≡ codes "msgmnb" = text_from_reads c.args.word.now (codes "msgmnb") (omega arith) (search rules) in
    rw e refl

pub returns-in-semmsl : goal.returns-in-semmsl
unfolding limit_named
returns-in-semmsl c =
    let e : c.args.word.now ≡ codes "semmsl" = text_from_reads c.args.word.now (codes "semmsl") (omega arith) (search rules) in
    rw e refl

pub returns-in-semopm : goal.returns-in-semopm
unfolding limit_named
returns-in-semopm c =
    let e : c.args.word.now ≡ codes "semopm" = text_from_reads c.args.word.now (codes "semopm") (omega arith) (search rules) in
    rw e refl

pub returns-in-shmmax : goal.returns-in-shmmax
unfolding limit_named
returns-in-shmmax c =
    let e : c.args.word.now ≡ codes "shmmax" = text_from_reads c.args.word.now (codes "shmmax") (omega arith) (search rules) in
    rw e refl

pub returns-in-102 : goal.returns-in-102
unfolding limit_named
returns-in-102 c =
    let e : c.args.word.now ≡ codes "first-seq" = text_from_reads c.args.word.now (codes "first-seq") (omega arith) (search rules) in
    rw e refl
