-- The whole document: what is said against it first, and what it is read as.
use Rattle.std.specs.Prelude.{◌≡◌, ℕ, nat_lt, Bool, List, [], ◌∷◌, ◌++◌, fold, length, map, Option, Some, None, Result, Ok, Err, codes, is_none, unwrap_or, if◌then◌else◌}
use Rattle.std.specs.{List.flat_map, Option.option_map, Option.option_map_or, Str.is_utf8}
use Rattle.serde_json.specs.{Data.Data, Find.as_object, Find.get, Read.read, View.view}
use Rattle.serde_json.specs.declared.value.Value.{Value}
use Rattle.mum_base.specs.declared.name.TheConstants.{TEXT_LIMIT}
use Rattle.mum_state.specs.declared.{account.TheConstants.ACCOUNT_LIMIT, edit.Edit.Edit}
use Rattle.mum_state.specs.declared.{edit.Edit.TheVariants.SetServer, server.TheConstants.DEFAULT_BANDWIDTH}
use Rattle.mum_document.specs.declared.fault.{DocumentError.DocumentError, ConfigFault.ConfigFault}
use Rattle.mum_document.specs.declared.fault.ConfigFault.TheVariants.{Limit, NotAnObject, NotJson}
use Rattle.mum_document.specs.Value.{digest_fault, digest_of, greatest, list_fault, number_fault, number_of, text_fault, text_of, wanted}
use Rattle.mum_document.specs.{Fault.Fault, Fault.against, Fault.or_else, Reading.Names}
use Rattle.mum_document.specs.Object.{Row, elements_at, elements_fault, rows_fault, unknown_fault}
use Rattle.mum_config.specs.declared.config.{Config.Config, Settings.Settings}
use Rattle.mum_config.specs.declared.config.TheConstants.{DEFAULT_WORKERS, DOCUMENT_LIMIT, WORKERS_LIMIT}
use Rattle.mum_config.specs.declared.refusal.BadConfig.{BadConfig}
use Rattle.mum_config.specs.Account.{account_edit, account_fault, no_accounts, with_account_met}
use Rattle.mum_config.specs.Channel.{ChannelsMet, are_too_many, channel_edits, channel_fault, root_met, with_channel_met}
use Rattle.mum_config.specs.{Link.link_edit, Link.link_fault, Link.with_link_met, Refusal.NamesByCode}

-- the value that a text is, if it is one
abbrev pub value_of : List ℕ → Option Data
value_of text = if is_utf8 text then read text else None

abbrev pub accounts_in : Data → List Data
accounts_in document = elements_at (codes "accounts") document

abbrev pub channels_in : Data → List Data
channels_in document = elements_at (codes "channels") document

abbrev pub links_in : Data → List Data
links_in document = elements_at (codes "links") document

-- the channels after all entries
abbrev pub channels_met : Data → ChannelsMet
channels_met document = fold with_channel_met root_met (channels_in document)

abbrev pub document_names : List (List ℕ)
document_names =
    codes "welcome" ∷ codes "bandwidth" ∷ codes "workers" ∷ codes "server_password_sha256"
    ∷ codes "accounts" ∷ codes "channels" ∷ codes "links" ∷ []

abbrev pub settings_rows : Data → List Row
settings_rows document =
    (codes "welcome", wanted (text_fault TEXT_LIMIT) (get (codes "welcome") document))
    ∷ (codes "bandwidth", wanted (number_fault 1 greatest) (get (codes "bandwidth") document))
    ∷ (codes "workers", wanted (number_fault 1 WORKERS_LIMIT) (get (codes "workers") document))
    ∷ (codes "server_password_sha256", wanted digest_fault (get (codes "server_password_sha256") document))
    ∷ []

abbrev pub account_list_rows : Data → List Row
account_list_rows document =
    (codes "accounts", wanted (list_fault ACCOUNT_LIMIT) (get (codes "accounts") document))
    ∷ (codes "accounts", elements_fault account_fault with_account_met no_accounts 0 (accounts_in document))
    ∷ []

-- a list that no other limit bounds has no more elements than a document has bytes
abbrev pub channel_list_rows : Data → List Row
channel_list_rows document =
    (codes "channels", wanted (list_fault DOCUMENT_LIMIT) (get (codes "channels") document))
    ∷ (codes "channels", against Limit (are_too_many (channels_in document)))
    ∷ (codes "channels", elements_fault channel_fault with_channel_met root_met 0 (channels_in document))
    ∷ []

abbrev pub link_list_rows : List (ℕ × ℕ) → Data → List Row
link_list_rows depths document =
    (codes "links", wanted (list_fault DOCUMENT_LIMIT) (get (codes "links") document))
    ∷ (codes "links", elements_fault (link_fault depths) with_link_met [] 0 (links_in document))
    ∷ []

abbrev pub document_rows : Data → List Row
document_rows document =
    settings_rows document ++ account_list_rows document ++ channel_list_rows document
    ++ link_list_rows (channels_met document).depths document

-- the cause is of the document as a whole
abbrev pub against_document : ConfigFault → Bool → Option Fault
against_document cause holds = if holds then Some (record { cause = cause; key = codes "document" }) else None

unfoldable pub object_fault_of : Data → Option Fault
object_fault_of document =
    or_else (against_document NotAnObject (is_none (as_object document)))
    (or_else (unknown_fault [] document_names document) (rows_fault [] (document_rows document)))

-- the first fault of a text
unfoldable pub fault_of : List ℕ → Option Fault
fault_of text =
    or_else (against_document Limit (nat_lt DOCUMENT_LIMIT (length text)))
    (or_else (against_document NotJson (is_none (value_of text)))
    (option_map_or object_fault_of (value_of text) None))

-- ---- what the document is read as

-- what a document says of the server itself
abbrev pub settings_of : Data → Settings
settings_of document = record {
  welcome = option_map text_of (get (codes "welcome") document);
  bandwidth = option_map number_of (get (codes "bandwidth") document);
  workers = option_map number_of (get (codes "workers") document);
  password = option_map digest_of (get (codes "server_password_sha256") document);
}

-- what is not given is as in an empty server
abbrev pub server_edit : Settings → Edit
server_edit settings =
    SetServer (unwrap_or settings.welcome []) (unwrap_or settings.bandwidth DEFAULT_BANDWIDTH) settings.password

unfoldable pub edits_of : Data → List Edit
edits_of document =
    server_edit (settings_of document) ∷ (map account_edit (accounts_in document)
    ++ flat_map channel_edits (channels_in document)
    ++ map link_edit (links_in document))

unfoldable pub config_of : Data → Config
config_of document = record {
  workers = unwrap_or (settings_of document).workers DEFAULT_WORKERS;
  edits = edits_of document;
}

-- what a text is read as, if it is a value
abbrev pub config_in : List ℕ → Option Config
config_in text = option_map config_of (value_of text)

-- the configuration of a text where nothing is said against it, or the first fault; or memory ran out
abbrev pub ReadsText : List ℕ → Result Config DocumentError → Type 0
ReadsText text (Ok config) = (fault_of text ≡ None) × (config_in text ≡ Some config)
ReadsText text (Err error) = Names error (fault_of text)

-- the same, where a fault is reported by its number
abbrev pub ReadsConfig : List ℕ → Result Config BadConfig → Type 0
ReadsConfig text (Ok config) = (fault_of text ≡ None) × (config_in text ≡ Some config)
ReadsConfig text (Err error) = NamesByCode error (fault_of text)

-- the value of a text, or that it is none
abbrev pub ReadsValue : List ℕ → Result Value DocumentError → Type 0
ReadsValue text (Ok value) = value_of text ≡ Some (view value)
ReadsValue text (Err error) = Names error (against_document NotJson (is_none (value_of text)))
