use Rattle.board_core.proofs.Laws as laws
use Rattle.board_core.proofs.law.law_past.Goals as goal

pub returns-clause-entries : goal.returns-clause-entries
returns-clause-entries c = laws.entries_go_on

pub returns-clause-deliveries : goal.returns-clause-deliveries
returns-clause-deliveries c = laws.deliveries_go_on

pub returns-clause-claims : goal.returns-clause-claims
returns-clause-claims c = laws.claims_go_on

pub returns-clause-axes : goal.returns-clause-axes
returns-clause-axes c = laws.claims_have_axes

pub returns-clause-stand : goal.returns-clause-stand
returns-clause-stand c = laws.deliveries_stand

pub returns-clause-undone : goal.returns-clause-undone
returns-clause-undone c = laws.undone_undelivered

pub returns-clause-released : goal.returns-clause-released
returns-clause-released c = laws.released_claimed

pub returns-clause-tables : goal.returns-clause-tables
returns-clause-tables c = laws.tables_fit
