-- msgsnd and msgrcv on the queues and on their blur.
use Rattle.std.proofs.Common.{◌≡◌, ℕ, Bool, true, false, [], length, refl, sym, ◌∙◌, Option, Some, None}
use Rattle.std.specs.Prelude.{nat_le, int_le, pos, ◌||◌, take}
use Rattle.std.specs.FinMap as finite
use Rattle.ipc_call.specs.Flags.{has_flag, msg_noerror}
use Rattle.ipc_call.specs.declared.limits.Limits.{Limits}
use Rattle.ipc_call.specs.declared.rules.Rule.TheVariants.{BadId, BadType, MessageTooLong, NoMessage, QueueFull, TextTooLong}
use Rattle.ipc_call.specs.declared.replies.Answer.TheVariants.{Done, Message as MessageAnswer}
use Rattle.ipc_call.specs.declared.settings.Receive.{Receive}
use Rattle.ipc_creds.specs.Credentials.{Credentials}
use Rattle.ipc_perm.specs.Access.{Permission, class_of, rule_of, to_alter, to_read}
use Rattle.ipc_objects.specs.declared.object.Object.{Object}
use Rattle.ipc_objects.specs.Objects.{with_contents}
use Rattle.msg_queue.specs.declared.messages.Message.{Message}
use Rattle.ipc_model.specs.State.{Caller, Queue, Queues}
use Rattle.ipc_model.specs.Plan.{Needs, Passes, Proceeds, on_part}
use Rattle.ipc_model.specs.Messages.{Send, chosen, has_room, queue_at, receive_found, receive_message, send_found, send_message, take_chosen, with_message, without_message}
use Rattle.ipc_model.proofs.Granting.{Grants, grants-check, grants-found, grants-grant, grants-refuse}
use Rattle.ipc_laws.specs.Worlds.{blank_queue, blur_queues, hides_closed, is_closed, is_hidden_in}
use Rattle.ipc_laws.proofs.Closed.{denied-permission}
use Rattle.ipc_laws.proofs.Pairs.{Both, both-check, both-denied, both-grant, both-less, both-refuse}
use Rattle.ipc_laws.proofs.Parts.{Alike, Exact, exact-alike, exact-changed, hidden-changed, own-found, seen-found}
use Rattle.ipc_laws.proofs.Tables.{again, hidden-at}

module _ (client : ℕ) (c : Credentials) where
  abbrev pub hid : Queues → ℕ → Bool
  hid queues q = is_hidden_in (hides_closed client c) queues q

  pub queues-twice : (queues : Queues) → blur_queues client c queues ≡ blur_queues client c (blur_queues client c queues)
  queues-twice queues = again blank_queue (λ x. refl) (hides_closed client c) (hides_closed client c) queues (λ q p is. is)

  module _ (queues : Queues) where
    abbrev blurred : Queues
    blurred = blur_queues client c queues

    abbrev pub IsExact : Queues → Queues → Type 0
    IsExact new later = Exact (blur_queues client c) hid queues new later

    abbrev pub IsAlike : Queues → Queues → Type 0
    IsAlike new later = Alike (blur_queues client c) hid queues new later

    module _ (who : Caller) (id : ℕ) where
      exact-with : (o : Object Queue) → finite.get queues.objects id ≡ Some o → is_closed c o.perm ≡ false → (x : Queue) → IsExact (with_contents queues id x) (with_contents blurred id x)
      exact-with o there seen x = exact-changed blank_queue (hides_closed client c) queues id o there seen (λ (y : Object Queue). record y { contents = x }) refl

      -- of any caller, on a queue in sight
      module _ (d : Credentials) (o : Object Queue) (there : finite.get queues.objects id ≡ Some o) (seen : is_closed c o.perm ≡ false) where
        exact-sent : (asked : Send) → Both d IsExact (send_found queues who id asked (Some o)) (send_found blurred who id asked (Some o))
        exact-sent asked =
            both-check IsExact d (Needs (Permission o.perm to_alter)) (both-check IsExact d (Proceeds (has_room o.contents asked.message) asked.flags QueueFull tt)
            (both-grant IsExact d Done _ _ (exact-with o there seen (with_message who asked.message o.contents))))

        exact-taken : (asked : Receive) (taken : Option (ℕ × Message)) → Both d IsExact (on_part (with_contents queues id) (take_chosen who asked o.contents taken)) (on_part (with_contents blurred id) (take_chosen who asked o.contents taken))
        exact-taken asked None = both-check IsExact d (Proceeds false asked.flags NoMessage tt) (both-refuse IsExact d NoMessage tt)
        exact-taken asked (Some taken) =
            both-check IsExact d (Passes (nat_le (length taken.1.text) asked.size || has_flag asked.flags msg_noerror) MessageTooLong tt)
            (both-grant IsExact d (MessageAnswer taken.1.mtype (take asked.size taken.1.text)) _ _ (exact-with o there seen (without_message who taken.0 o.contents)))

        exact-received : (asked : Receive) → Both d IsExact (receive_found queues who id asked (Some o)) (receive_found blurred who id asked (Some o))
        exact-received asked = both-check IsExact d (Needs (Permission o.perm to_read)) (exact-taken asked (chosen o.contents.messages asked))

      module _ (d : Credentials) (seen : hid queues id ≡ false) where
        pub exact-send : (limits : Limits) (asked : Send) → Both d IsExact (send_message limits queues who id asked) (send_message limits blurred who id asked)
        exact-send limits asked =
            both-check IsExact d (Passes (int_le (pos 1) asked.message.mtype) BadType tt) (both-check IsExact d (Passes (nat_le (length asked.message.text) limits.msg_max) TextTooLong tt)
            (seen-found blank_queue (hides_closed client c) queues id IsExact d BadId tt seen (λ o there isnt. exact-sent d o there isnt asked)))

        pub exact-receive : (asked : Receive) → Both d IsExact (receive_message queues who id asked) (receive_message blurred who id asked)
        exact-receive asked = seen-found blank_queue (hides_closed client c) queues id IsExact d BadId tt seen (λ o there isnt. exact-received d o there isnt asked)

      -- of the client itself, on any queue
      exact-less : (new later : Queues) → IsExact new later → IsAlike new later
      exact-less new later exact = exact-alike (blur_queues client c) hid queues-twice queues new later exact

      pub own-send : (limits : Limits) (asked : Send) → Both c IsAlike (send_message limits queues who id asked) (send_message limits blurred who id asked)
      own-send limits asked =
          both-check IsAlike c (Passes (int_le (pos 1) asked.message.mtype) BadType tt) (both-check IsAlike c (Passes (nat_le (length asked.message.text) limits.msg_max) TextTooLong tt)
          (own-found blank_queue (hides_closed client c) queues id IsAlike c BadId tt
          (λ o there isnt. both-less IsExact IsAlike exact-less c (exact-sent c o there isnt asked))
          (λ o is. both-denied IsAlike c (Permission o.perm to_alter) (rule_of (class_of c o.perm)) (denied-permission c o.perm to_alter is refl))))

      pub own-receive : (asked : Receive) → Both c IsAlike (receive_message queues who id asked) (receive_message blurred who id asked)
      own-receive asked =
          own-found blank_queue (hides_closed client c) queues id IsAlike c BadId tt
          (λ o there isnt. both-less IsExact IsAlike exact-less c (exact-received c o there isnt asked))
          (λ o is. both-denied IsAlike c (Permission o.perm to_read) (rule_of (class_of c o.perm)) (denied-permission c o.perm to_read is refl))

      -- of any caller, on a hidden queue
      module _ (d : Credentials) (hidden : hid queues id ≡ true) where
        abbrev pub IsSame : Queues → Type 0
        IsSame new = blur_queues client c new ≡ blurred

        same-with : (o : Object Queue) → finite.get queues.objects id ≡ Some o → (x : Queue) → x.qbytes ≡ o.contents.qbytes → IsSame (with_contents queues id x)
        same-with o there x same =
            hidden-changed blank_queue (hides_closed client c) queues id o there (sym (hidden-at (hides_closed client c) queues id (Some o) there) ∙ hidden) (λ (y : Object Queue). record y { contents = x }) refl
            (λ i. record { messages = []; qbytes = same i; last_sender = 0; last_receiver = 0; send_time = 0; receive_time = 0 })

        pub same-send : (limits : Limits) (asked : Send) → Grants d IsSame (send_message limits queues who id asked)
        same-send limits asked =
            grants-check IsSame d (Passes (int_le (pos 1) asked.message.mtype) BadType tt) (grants-check IsSame d (Passes (nat_le (length asked.message.text) limits.msg_max) TextTooLong tt)
            (grants-found IsSame d (queue_at queues id) BadId tt (λ o there.
            grants-check IsSame d (Needs (Permission o.perm to_alter)) (grants-check IsSame d (Proceeds (has_room o.contents asked.message) asked.flags QueueFull tt)
            (grants-grant IsSame d Done _ (same-with o there (with_message who asked.message o.contents) refl))))))

        same-taken : (asked : Receive) (o : Object Queue) → finite.get queues.objects id ≡ Some o → (taken : Option (ℕ × Message)) → Grants d IsSame (on_part (with_contents queues id) (take_chosen who asked o.contents taken))
        same-taken asked o there None = grants-check IsSame d (Proceeds false asked.flags NoMessage tt) (grants-refuse IsSame d NoMessage tt)
        same-taken asked o there (Some taken) =
            grants-check IsSame d (Passes (nat_le (length taken.1.text) asked.size || has_flag asked.flags msg_noerror) MessageTooLong tt)
            (grants-grant IsSame d (MessageAnswer taken.1.mtype (take asked.size taken.1.text)) _ (same-with o there (without_message who taken.0 o.contents) refl))

        pub same-receive : (asked : Receive) → Grants d IsSame (receive_message queues who id asked)
        same-receive asked = grants-found IsSame d (queue_at queues id) BadId tt (λ o there.
            grants-check IsSame d (Needs (Permission o.perm to_read)) (same-taken asked o there (chosen o.contents.messages asked)))
