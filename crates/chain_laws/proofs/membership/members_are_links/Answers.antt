use Rattle.chain_laws.proofs.ChainLemmas.Uniqueness.{chain_once}
use Rattle.chain_laws.proofs.ChainLemmas.MemberLaws.{members_are_links, free_is_in_no_chain}
use Rattle.chain_laws.proofs.membership.members_are_links.Goals as goal

pub returns : goal.returns
returns c = (members_are_links, free_is_in_no_chain, chain_once)
