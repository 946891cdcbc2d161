-- How the attachments are stored as a value.
use Rattle.std.specs.Prelude.{ℕ, Bool, refl}
use Rattle.std.specs.Coded.{Coded, code_by, coded×, coded_ℕ, coded_bool}
use Rattle.std.specs.FinMap as finite
use Rattle.client_map.specs.Keys.{key_code}
use Rattle.shm_seg.specs.Attachments.{Attached, Attachment}

abbrev pub attachment_code : Coded Attachment
attachment_code =
    code_by (ℕ × Bool) (coded× coded_ℕ coded_bool) (λ a. (a.segment, a.is_read_only))
    (λ c. record { segment = c.0; is_read_only = c.1 }) (λ _. refl)

abbrev pub attached_code : Coded Attached
attached_code = finite.code key_code attachment_code
