-- The link with a configured peer.
use Rattle.std.proofs.Common.{◌≡◌, ℕ, zero, suc, Bool, true, false, cond, List, [], ◌∷◌, Option, None, Some, map, position, refl, sym, ap, ◌∙◌, subst}
use Rattle.std.specs.Prelude.{slice_get}
use Rattle.std.proofs.lemmas.Option.{slice_get-get_or}
use Rattle.cluster_directory.proofs.CallerLemmas.{same_if}
use Rattle.cluster_directory.specs.Names.{same_name}
use Rattle.cluster_directory.specs.Terms.{Terms, index_of, names_of}
use Rattle.cluster_directory.specs.declared.terms.PeerTerms.{PeerTerms}
use Rattle.gossip_link.specs.Link.{Link}
use Rattle.gossip_link.specs.Peer.{unheard}
use Rattle.network_log.specs.Facts.{NodeFacts}
use Rattle.network_log.specs.Peer.{IsLinkWith}
use Rattle.network_log.specs.Telling.{IsPeer}
use Rattle.node_peers.specs.Talk.{IsSameTie}

-- the name of the place that was found for it
found-there : (t : Terms) (name : List ℕ) (place : ℕ) (b : Bool) → same_name name t.me.node ≡ b → index_of t name ≡ Some place → slice_get (names_of t) place ≡ Some name
found-there t name place true e found = absurd (none-some (sym (ap by e) ∙ found)) where
  by : Bool → Option ℕ
  by b = cond b None (position (λ other. same_name name other) (names_of t))

  none-some : None ≡ Some place → ⊥
  none-some e = cc
found-there t name place false e found =
    let by : Bool → Option ℕ = λ b. cond b None (position (λ other. same_name name other) (names_of t)) in
    let k = same_if (names_of t) name place (sym (ap by e) ∙ found) in
    slice_get-get_or (names_of t) place name k.0 ∙ ap Some k.1

pub link-made : (facts : NodeFacts) (t : Terms) (name : List ℕ) (place : ℕ) (link : Link) → t ≡ facts.terms → index_of t name ≡ Some place
    → link ≡ record { me = t.me; name = name; peer = unheard } → IsLinkWith facts place link
link-made facts t name place link own found e = record {
  is_own = ap (λ (l : Link). l.me) e ∙ ap (λ (u : Terms). u.me) own;
  is_name = subst (λ (u : Terms). slice_get (names_of u) place ≡ Some link.name) own
      (found-there t name place (same_name name t.me.node) refl found ∙ ap Some (sym (ap (λ (l : Link). l.name) e)));
}

-- it stays one as the link hears and sends
pub link-kept : {facts : NodeFacts} {place : ℕ} {old : Link} (new : Link) → IsSameTie old new → IsLinkWith facts place old → IsLinkWith facts place new
link-kept new same is = record { is_own = same.me ∙ is.is_own; is_name = is.is_name ∙ ap Some (sym same.name) }

named-there : (peers : List PeerTerms) (place : ℕ) (name : List ℕ) → slice_get (map (λ (p : PeerTerms). p.name) peers) place ≡ Some name
    → (terms : PeerTerms) × (slice_get peers place ≡ Some terms)
named-there [] zero name e = absurd (cc e)
named-there [] (suc place) name e = absurd (cc e)
named-there (p ∷ peers) zero name e = (p, refl)
named-there (p ∷ peers) (suc place) name e = named-there peers place name e

-- the peer of a link is configured
pub configured : {facts : NodeFacts} {place : ℕ} {link : Link} → IsLinkWith facts place link → IsPeer facts place
configured {facts} {place} {link} is = let k = named-there facts.terms.peers place link.name is.is_name in record { terms = k.0; is_there = k.1 }
