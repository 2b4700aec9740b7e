use Rattle.std.proofs.Common.{◌≡◌, ◌++◌, List, ℕ, Some, refl, sym, subst, ◌∙◌, ap, get_or, length, slice_set}
use Rattle.std.specs.Prelude.{slice_get}
use Rattle.std.proofs.lemmas.Option.{same_Some, slice_get_read}
use Rattle.cluster_directory.specs.declared.config.SessionConfig.{SessionConfig}
use Rattle.network_log.specs.Guest.{Guest}
use Rattle.network_log.specs.NetworkState.{NetworkState}
use Rattle.network_log.specs.Share.{hears_batch}
use Rattle.network_log.specs.Telling.{IsToldToClient}
use Rattle.hosted_network.specs.Shares.{entries_in}
use Rattle.hosted_network.specs.Sharing.{AreMarked}
use Rattle.hosted_network.specs.Telling.{IsToldAt}
use Rattle.hosted_network.proofs.TellingLemmas.{told_at, told_so}
use Rattle.hosted_network.proofs.parts.NetworkParts.tell_at.Goals as goal

pub tell_client-requires : goal.tell_client-requires
tell_client-requires g c =
    let w : NetworkState = c.args.self.now in
    let told = c.args.shares.now.told.now in
    let client : Guest = c.index_mut.result.now in
    let same : c.self.inside.clients.items ≡ w.guests = ap (λ (v : NetworkState). v.guests) c.self.view_is in
    let spot : slice_get w.guests c.args.place ≡ Some client =
    slice_get_read w.guests (length w.guests) c.args.place client refl c.requires.place
    (c.index_mut.ensures.value ∙ ap (λ (l : List Guest). get_or l c.args.place client) same) in
    record {
      may = λ f l. subst (λ (t : List ℕ). ∥ IsToldToClient g.C.Connection.facts client.serial client.received (client.told ++ t) ∥₁)
          (sym (told_so w.held told.mark c.args.shares.now.config.now c.args.is_read client f (entries_in told) l
          (λ e. subst (λ (k : SessionConfig). AreMarked w.held told.mark k.account k.network (entries_in told)) (sym c.requires.config) (c.requires.marked e))))
          (c.requires.may client f spot l.is_there l.has_facts);
    }

pub returns-clause-told : goal.returns-clause-told
returns-clause-told g c =
    let w : NetworkState = c.args.self.now in
    let told = c.args.shares.now.told.now in
    let place = c.args.place in
    let client : Guest = c.index_mut.result.now in
    let new : Guest = c.tell_client.new.client in
    let same : c.self.inside.clients.items ≡ w.guests = ap (λ (v : NetworkState). v.guests) c.self.view_is in
    let spot : slice_get w.guests place ≡ Some client =
    slice_get_read w.guests (length w.guests) place client refl c.requires.place
    (c.index_mut.ensures.value ∙ ap (λ (l : List Guest). get_or l place client) same) in
    λ h at. subst (λ (x : Guest). IsToldAt (hears_batch w.held (entries_in told)) place x w.guests (slice_set c.self.inside.clients.items place new))
    (same_Some _ _ (sym spot ∙ at))
    (subst (λ (l : List Guest). IsToldAt (hears_batch w.held (entries_in told)) place client w.guests (slice_set l place new)) (sym same)
    (told_at {olds = w.guests} w.held place
    (λ e. subst (λ (k : SessionConfig). AreMarked w.held told.mark k.account k.network (entries_in told)) (sym c.requires.config) (c.requires.marked e))
    c.tell_client.ensures.heard))
