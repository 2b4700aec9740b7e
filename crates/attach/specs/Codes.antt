-- How the values that contracts see are kept as ghosts.
use Rattle.std.specs.Prelude.{ℕ, List, Option, refl}
use Rattle.std.specs.Coded.{Coded, code_by, coded×, coded_ℕ, coded_list, coded_option}
use Rattle.atomic_table.specs.Seated.{TableId, table_id_coded}
use Rattle.attach.specs.Attachment.{AttachmentState}
use Rattle.attach.specs.CountingClient.{CountingClientState}
use Rattle.attach.specs.Hold.{HoldState}
use Rattle.attach.specs.Places.{ClerkState, StandState}
use Rattle.attach.specs.Recorder.{RecorderState}

abbrev pub attachment_code : Coded AttachmentState
attachment_code =
    code_by (ℕ × (ℕ × List ℕ)) (coded× coded_ℕ (coded× coded_ℕ (coded_list coded_ℕ)))
    (λ a. (a.place, (a.bound, a.owed)))
    (λ p. record { place = p.0; bound = p.1.0; owed = p.1.1 })
    (λ _. refl)

abbrev pub hold_code : Coded HoldState
hold_code =
    code_by (TableId × Option ℕ) (coded× table_id_coded (coded_option coded_ℕ))
    (λ h. (h.table, h.place))
    (λ p. record { table = p.0; place = p.1 })
    (λ _. refl)

abbrev pub clerk_code : Coded ClerkState
clerk_code =
    code_by (TableId × ℕ) (coded× table_id_coded coded_ℕ)
    (λ c. (c.table, c.count))
    (λ p. record { table = p.0; count = p.1 })
    (λ _. refl)

abbrev pub stand_code : Coded StandState
stand_code =
    code_by (TableId × ℕ) (coded× table_id_coded coded_ℕ)
    (λ s. (s.table, s.place))
    (λ p. record { table = p.0; place = p.1 })
    (λ _. refl)

abbrev pub counting_client_code : Coded CountingClientState
counting_client_code =
    code_by (AttachmentState × (ℕ × ℕ)) (coded× attachment_code (coded× coded_ℕ coded_ℕ))
    (λ c. (c.client, (c.lines, c.bytes)))
    (λ p. record { client = p.0; lines = p.1.0; bytes = p.1.1 })
    (λ _. refl)

abbrev pub recorder_code : Coded RecorderState
recorder_code =
    code_by (AttachmentState × List ℕ) (coded× attachment_code (coded_list coded_ℕ))
    (λ c. (c.client, c.recorded))
    (λ p. record { client = p.0; recorded = p.1 })
    (λ _. refl)
